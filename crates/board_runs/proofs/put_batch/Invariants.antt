use mathlib.Core.Path.{◌≡◌}
use mathlib.Core.List.{map}
use Prim.Native.Nat.{◌+◌, ◌-◌, ◌*◌}
use lib.ListN.{length}
use Rattle.base.specs.Lists.{gathered, upto}
use Rattle.words.specs.Words.{write}
use Rattle.sort.specs.Rows.{board_row_words}
use Rattle.board.specs.Board.{departure_of}
use Rattle.board_runs.specs.Batch.{batch_rows}
use Rattle.board_runs.proofs.put_batch.Given as goal

abbrev pub invariant-loop-r : goal.invariant-loop-r
invariant-loop-r l =
    (length l.list ≡ length l.initial.list)
    × (l.to + 4 * (l.b.high - l.r) ≡ l.at + 4 * (l.b.high - l.b.low))
    × (write l.list l.to (gathered board_row_words (map (departure_of l.b.service l.b.opening l.b.place l.b.departure) (upto (l.b.high - l.r) l.r))) ≡ write l.initial.list l.at (gathered board_row_words (batch_rows l.b)))
