use lib.ListN.{length}
use mathlib.Core.Path.{◌≡◌}
use Rattle.stop_calls.specs.StopCalls.{left_at}
use Rattle.boards.specs.ByWords.{Keeping}
use Rattle.boards.proofs.keep_from.Given as goal

abbrev pub invariant-loop-c : goal.invariant-loop-c
invariant-loop-c l = Keeping l.w l.x l.y l.end l.s l.from l.n l.first l.last l.initial.c l.rows l.kept l.c l.left l.m × (length l.kept ≡ length l.initial.kept)

abbrev pub decreases-loop-c : goal.decreases-loop-c
decreases-loop-c l = length (left_at l.w l.x l.y l.end l.s l.from l.n l.c)
