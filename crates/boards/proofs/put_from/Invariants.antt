use lib.ListN.{length}
use Rattle.stop_calls.specs.StopCalls.{left_at}
use Rattle.boards.specs.ByWords.{Putting}
use Rattle.boards.proofs.put_from.Given as goal

abbrev pub invariant-loop-c : goal.invariant-loop-c
invariant-loop-c l = Putting l.w l.x l.y l.end l.s l.from l.n l.k l.first l.last l.initial.list l.initial.c l.list l.c l.to

abbrev pub decreases-loop-c : goal.decreases-loop-c
decreases-loop-c l = length (left_at l.w l.x l.y l.end l.s l.from l.n l.c)
