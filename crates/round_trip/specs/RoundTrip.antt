-- Document 02, No. 11: "For a table of an accepted delivery, loading the text with the same other files gives the same table except the opening line
-- numbers, and writing that again gives the same bytes." Proved in proofs/Round.antt: `round_trip`, of files that a load accepts (`loaded f (length t) helper ≡ Accepted u`) and
-- whose FPLAN is bytes (each below 256). Assumes nothing.
use Rattle.std.specs.Prelude.{ℕ, ◌≡◌, List, length}
use Rattle.timetable.specs.Delivery.{Files, files_of}
use Rattle.timetable.specs.Load.{loaded, written}
use Rattle.timetable.specs.declared.Loaded.TheVariants.{Accepted}
use Rattle.plan_writing.specs.Writing.{table_text, text_or_short, plan_answer, plan_bytes}
use Rattle.round_trip.specs.Lines.{except_lines}

-- the same other files with another FPLAN
abbrev pub with_text : Files → List ℕ → Files
with_text f text = files_of f.eckdaten f.bitfeld f.bahnhof f.umsteigb text f.zugart

-- what loading f into the words t leaves, with so many helper words; and f with the text of that
module _ (f : Files) (t : List ℕ) (helper : ℕ) where
  abbrev pub table : List ℕ
  table = written f t helper

  abbrev pub clean : Files
  clean = with_text f (table_text table)

  abbrev pub table_again : List ℕ
  table_again = written clean t helper

-- f was accepted with u words used
pub record RoundTrip (f : Files) (t : List ℕ) (helper u : ℕ) : Type 0 where
  -- neither 21 nor 44: only 45 can be told
  pub writes : (room : ℕ) → plan_answer (table f t helper) room ≡ text_or_short (table_text (table f t helper)) room
  -- the text is accepted with the same table room and helper words, and as many words are used
  pub accepts : loaded (clean f t helper) (length t) helper ≡ Accepted u
  -- "the same table except the opening line numbers"; later words stay
  pub same : except_lines (table_again f t helper) ≡ except_lines (table f t helper)
  -- "writing that again gives the same bytes", and the same answer, whatever bytes are lent
  pub answers : (room : ℕ) → plan_answer (table_again f t helper) room ≡ plan_answer (table f t helper) room
  pub bytes : (b : List ℕ) → plan_bytes (table_again f t helper) b ≡ plan_bytes (table f t helper) b
