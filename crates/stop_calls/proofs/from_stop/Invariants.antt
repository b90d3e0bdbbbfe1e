use mathlib.Core.Path.{◌≡◌}
use Prim.Native.Nat.{◌≤◌}
use lib.ListN.{take}
use Rattle.base.specs.Lists.{gathered}
use Rattle.timetable.specs.Layout.{stop_size}
use Rattle.chains.specs.Chains.{next_by}
use Rattle.stop_calls.specs.StopCalls.{chained, calls_on}
use Rattle.stop_calls.proofs.from_stop.Given as goal

abbrev pub invariant-loop-s : goal.invariant-loop-s
invariant-loop-s l =
    (l.s ≤ l.n)
    × (take l.left (gathered (calls_on l.n l.y) (chained (next_by l.w l.x l.end stop_size l.from l.key) l.n l.s)) ≡ take l.left (gathered (calls_on l.n l.y) (chained (next_by l.w l.x l.end stop_size l.from l.key) l.n l.first)))

abbrev pub decreases-loop-s : goal.decreases-loop-s
decreases-loop-s l = l.s
