-- "For an answer that is an enum, a definition provides this paper's number and values for each of the enum's cases."
-- A number of 0 says that nothing was refused. Assumes nothing.
use Rattle.std.specs.Prelude.{ℕ, Bool, true, false, Some, None, Result, Ok, Err}
use Rattle.timetable.specs.Refusals.{number_of}
use Rattle.timetable.specs.declared.refusal.Refusal.{Refusal}
use Rattle.timetable.specs.declared.Loaded.{Loaded}
use Rattle.timetable.specs.declared.Loaded.TheVariants.{Accepted, Refused}
use Rattle.timetable.specs.declared.NamePart.{NamePart}
use Rattle.timetable.specs.Questions.{Walked}
use Rattle.whole_index.specs.declared.Made.{Made}
use Rattle.whole_index.specs.declared.Made.TheVariants.{Index, Refused as MadeRefused}
use Rattle.index_check.specs.declared.IndexCheck.{IndexCheck}
use Rattle.index_check.specs.declared.IndexCheck.TheVariants.{Right, Refused as CheckRefused}
use Rattle.board.specs.declared.BoardAnswer.{BoardAnswer}
use Rattle.board.specs.declared.BoardAnswer.TheVariants.{Listed as BoardListed, Refused as BoardRefused}
use Rattle.connections.specs.Connection.{ConnectionAnswer}
use Rattle.plan_writing.specs.declared.WriteRefusal.{WriteRefusal}
use Rattle.estelunya.specs.declared.IndexResult.{IndexResult}
use Rattle.estelunya.specs.declared.BoardResult.{BoardResult}
use Rattle.estelunya.specs.declared.ConnectionResult.{ConnectionResult}
use Rattle.estelunya.specs.declared.WriteResult.{WriteResult}
use Rattle.estelunya.specs.declared.LoadResult.{LoadResult}
use Rattle.estelunya.specs.declared.DayResult.{DayResult}
use Rattle.estelunya.specs.declared.InterchangeResult.{InterchangeResult}
use Rattle.estelunya.specs.declared.NameResult.{NameResult}
use Rattle.estelunya.specs.declared.WalkResult.{WalkResult}

-- "A refusal returns number, file, line, and the words needed (0 unless 20)" (or 51, by No. 13) ".. Acceptance returns words used"; No. 6: "A refusal 4 also returns the
-- column ..; all other refusals return 0 there."
abbrev pub load_result : Loaded → LoadResult
load_result (Accepted used) = record { number = 0; file = 0; line = 0; words = used; column = 0 }
load_result (Refused number file line column needed) = record { number = number; file = file; line = line; words = needed; column = column }

-- 1 where the bit field runs on the day
abbrev pub day_result : Result Bool Refusal → DayResult
day_result (Ok true) = record { number = 0; runs = 1 }
day_result (Ok false) = record { number = 0; runs = 0 }
day_result (Err refusal) = record { number = number_of refusal; runs = 0 }

abbrev pub interchange_result : Result ℕ Refusal → InterchangeResult
interchange_result (Ok minutes) = record { number = 0; minutes = minutes }
interchange_result (Err refusal) = record { number = number_of refusal; minutes = 0 }

-- No. 3: "the part of BAHNHOF that holds it", by the byte where it starts, from 0, and its length
abbrev pub name_result : Result NamePart Refusal → NameResult
name_result (Ok part) = record { number = 0; start = part.start; length = part.size }
name_result (Err refusal) = record { number = number_of refusal; start = 0; length = 0 }

-- "A walk that lists rows returns how many"; 0 rows where it is not running; "29 also the words needed"
abbrev pub walk_result : Walked → WalkResult
walk_result (Ok (Some rows)) = record { number = 0; rows = rows; needed = 0 }
walk_result (Ok None) = record { number = 0; rows = 0; needed = 0 }
walk_result (Err w) = record { number = number_of w.refusal; rows = 0; needed = w.needed }

-- making an index: the words made, or No. 9's "29 with the words needed"
abbrev pub index_result : Made → IndexResult
index_result (Index words) = record { number = 0; words = words }
index_result (MadeRefused number needed) = record { number = number; words = needed }

-- 0 for a table's own index, 21, or No. 9's "43 words that are not this table's index"
abbrev pub check_number : IndexCheck → ℕ
check_number Right = 0
check_number (CheckRefused number) = number

-- No. 9: how many rows a board lists, or "29 list too short, with the words needed"
abbrev pub board_result : BoardAnswer → BoardResult
board_result (BoardListed rows) = record { number = 0; rows = rows; needed = 0 }
board_result (BoardRefused number needed) = record { number = number; rows = 0; needed = needed }

-- No. 12: "number of the first bad part and" the refusal
abbrev pub connection_result : ConnectionAnswer → ConnectionResult
connection_result (Ok done) = record { number = 0; part = 0 }
connection_result (Err r) = record { number = number_of r.refusal; part = r.part }

-- No. 11: the bytes written, or "45 text buffer too short, with the bytes needed"
abbrev pub write_result : Result ℕ WriteRefusal → WriteResult
write_result (Ok bytes) = record { number = 0; bytes = bytes }
write_result (Err r) = record { number = number_of r.refusal; bytes = r.needed }

-- ---- the version of the boundary, which crate and archive compare (docs/DECISIONS 109; 01 and 02 know none)

abbrev pub version : ℕ
version = 2
