-- A departure board of any words and any words lent as their index: checked (43 unless they are this table's index), and quick, told by what both show (`board_by`); of a
-- table and its own index the two are one (`quick-agrees`, proofs/Agrees). Assumes nothing.
use Rattle.std.specs.Prelude.{ℕ, List, cond, length, drop, Result, Ok, Err}
use Rattle.timetable.specs.declared.refusal.Refusal.TheVariants.{NoTable, StopUnknown, NotItsIndex}
use Rattle.timetable.specs.Table.{used}
use Rattle.timetable.specs.Questions.{date_of}
use Rattle.timetable.specs.declared.refusal.Refusal.{Refusal}
use Rattle.index.specs.Index.{index_size, headed, view_in}
use Rattle.index.specs.Quick.{index_long, lookups_of}
use Rattle.chain_check.specs.Tally.{same}
use Rattle.whole_index.specs.Whole.{whole_index_of}
use Rattle.board.specs.Question.{BoardFound, refused, board, board_asked}
use Rattle.boards.specs.ByWords.{board_by}

-- The checked board. "An index is valid only if it equals the one this table would get": the words lent, all of them, are that index, else "43 words that are not
-- this table's index".
abbrev pub board_checked : List ℕ → List ℕ → ℕ → ℕ → ℕ → ℕ → ℕ → ℕ → BoardFound
board_checked w x n day month year t u = board_asked w (same x (whole_index_of (used w))) n day month year t u

-- The quick board: 22, 23, 27, then the board, by the look-ups x and the calls y
abbrev pub board_by_day : List ℕ → List ℕ → List ℕ → ℕ → ℕ → ℕ → Result ℕ Refusal → BoardFound
board_by_day w x y n t u (Err refusal) = refused refusal
board_by_day w x y n t u (Ok k) = cond ((view_in w x).stop n) (board (board_by w x y n k t u)) (refused StopUnknown)

unfoldable pub board_by_words : List ℕ → List ℕ → List ℕ → ℕ → ℕ → ℕ → ℕ → ℕ → ℕ → BoardFound
board_by_words w x y n day month year t u = board_by_day w x y n t u (date_of (view_in w x) day month year)

-- the words of the calls, behind those of the look-ups
abbrev pub calls_part : List ℕ → List ℕ → List ℕ
calls_part w x = drop (index_size w) x

-- 21 a header that is not sound, 43 not an index of these words by its length, then what both show
unfoldable pub board_quick : List ℕ → List ℕ → ℕ → ℕ → ℕ → ℕ → ℕ → ℕ → BoardFound
board_quick w x n day month year t u =
    cond (headed w)
    (cond (index_long (used w) (length x)) (board_by_words (used w) (lookups_of (used w) x) (calls_part (used w) x) n day month year t u) (refused NotItsIndex))
    (refused NoTable)
