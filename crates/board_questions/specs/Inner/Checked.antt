-- The checked board step by step, for the contracts of inner functions: nobody has to believe this file. Assumes nothing.
use Rattle.std.specs.Prelude.{ℕ, List, Result}
use Rattle.timetable.specs.Table.{services#, table_of}
use Rattle.timetable.specs.View.{view_of}
use Rattle.timetable.specs.declared.refusal.Refusal.{Refusal}
use Rattle.index.specs.Index.{view_in}
use Rattle.chain_check.specs.Tally.{same}
use Rattle.whole_index.specs.Whole.{whole_index_of}
use Rattle.board.specs.Board.{board_of}
use Rattle.board.specs.Question.{BoardFound, board, board_in, board_on}

-- of just a table w, looked up by z, where x are the words lent as its index: on a date
abbrev pub board_dated : List ℕ → List ℕ → List ℕ → ℕ → ℕ → ℕ → ℕ → ℕ → ℕ → BoardFound
board_dated w z x n day month year t u = board_in (view_in w z) (services# w) (same x (whole_index_of w)) n day month year t u

-- on a day of the period
abbrev pub board_on_day : List ℕ → List ℕ → List ℕ → ℕ → ℕ → ℕ → Result ℕ Refusal → BoardFound
board_on_day w z x n t u on = board_on (view_in w z) (services# w) (same x (whole_index_of w)) n t u on

-- by its own index
abbrev pub own_board : List ℕ → ℕ → ℕ → ℕ → ℕ → BoardFound
own_board w n k t u = board (board_of (view_of (table_of w)) (services# w) n k t u)
