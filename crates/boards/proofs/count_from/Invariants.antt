use mathlib.Core.Path.{◌≡◌}
use Prim.Native.Nat.{◌+◌}
use lib.ListN.{length}
use Rattle.stop_calls.specs.StopCalls.{left_at, On}
use Rattle.boards.specs.ByWords.{left_departures}
use Rattle.boards.proofs.count_from.Given as goal

abbrev pub invariant-loop-c : goal.invariant-loop-c
invariant-loop-c l =
    On l.y l.s l.c × (l.total + length (left_departures l.w l.x l.y l.end l.s l.from l.n l.k l.first l.last l.c) ≡ length (left_departures l.w l.x l.y l.end l.s l.from l.n l.k l.first l.last l.initial.c))

abbrev pub decreases-loop-c : goal.decreases-loop-c
decreases-loop-c l = length (left_at l.w l.x l.y l.end l.s l.from l.n l.c)
