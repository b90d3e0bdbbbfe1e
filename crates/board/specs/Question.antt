-- The question for a departure board, document 02, No. 9: "Refusals, after 21, 22, 23: 27, 43 words that are not this table's index, 29 list too short, with the
-- words needed; the list then stays. A first time after the second is an empty board." Assumes nothing.
use Rattle.std.specs.Prelude.{ℕ, ◌*◌, List, Bool, cond, length, ltb, Result, Ok, Err}
use Rattle.base.specs.Lists.{gathered}
use Rattle.timetable.specs.Load.{onto}
use Rattle.timetable.specs.Table.{services#}
use Rattle.timetable.specs.View.{View}
use Rattle.timetable.specs.Questions.{asked, date_of}
use Rattle.timetable.specs.Refusals.{number_of}
use Rattle.timetable.specs.declared.refusal.Refusal.{Refusal}
use Rattle.timetable.specs.declared.refusal.Refusal.TheVariants.{StopUnknown, NotItsIndex}
use Rattle.sort.specs.Rows.{board_row_size, board_row_words}
use Rattle.board.specs.Board.{Departure, board_of}
use Rattle.board.specs.declared.BoardAnswer.{BoardAnswer}
use Rattle.board.specs.declared.BoardAnswer.TheVariants.{Listed, Refused}

-- what a board gives, before the room is looked at
pub data BoardFound : Type 0 where
  refused : Refusal → BoardFound
  board : List Departure → BoardFound

-- 22, 23, 27, 43, then the board; `own` says whether the words lent are this table's index
abbrev pub board_on : View → ℕ → Bool → ℕ → ℕ → ℕ → Result ℕ Refusal → BoardFound
board_on v services own n t u (Err refusal) = refused refusal
board_on v services own n t u (Ok k) = cond (v.stop n) (cond own (board (board_of v services n k t u)) (refused NotItsIndex)) (refused StopUnknown)

unfoldable pub board_in : View → ℕ → Bool → ℕ → ℕ → ℕ → ℕ → ℕ → ℕ → BoardFound
board_in v services own n day month year t u = board_on v services own n t u (date_of v day month year)

-- the board of any words
unfoldable pub board_asked : List ℕ → Bool → ℕ → ℕ → ℕ → ℕ → ℕ → ℕ → BoardFound
board_asked w own n day month year t u = asked refused (λ (v : View). board_in v (services# w) own n day month year t u) w

-- "29 list too short, with the words needed"
abbrev pub boarded_by : BoardFound → ℕ → BoardAnswer
boarded_by (refused refusal) room = Refused (number_of refusal) 0
boarded_by (board es) room = cond (ltb room (board_row_size * length es)) (Refused 29 (board_row_size * length es)) (Listed (length es))

-- the list afterwards: "the list then stays"; later words stay
abbrev pub board_into : BoardFound → List ℕ → List ℕ
board_into (refused refusal) list = list
board_into (board es) list = cond (ltb (length list) (board_row_size * length es)) list (onto (gathered board_row_words es) list)
