use lib.ListN.{length}
use Rattle.stop_calls.specs.StopCalls.{left_at}
use Rattle.boards.specs.ByWords.{Behind}
use Rattle.boards.proofs.next_loud.Given as goal

abbrev pub invariant-loop-c : goal.invariant-loop-c
invariant-loop-c l = Behind l.w l.x l.y l.end l.s l.from l.n l.first l.last (record { call = l.call; stop = l.stop; left = l.left }) l.c

abbrev pub decreases-loop-c : goal.decreases-loop-c
decreases-loop-c l = length (left_at l.w l.x l.y l.end l.s l.from l.n l.c)
