use mathlib.Core.Path.{◌≡◌}
use Prim.Native.Nat.{◌+◌, ◌*◌, ◌≤◌}
use lib.ListN.{length, drop}
use Rattle.timetable.specs.Layout.{service_head, call_size}
use Rattle.course.specs.Inner.Rows.{later_stand}
use Rattle.course.proofs.rows.later_stand.Given as goal

abbrev pub invariant-loop-k : goal.invariant-loop-k
invariant-loop-k l = (l.p + call_size * (l.k + 1) ≤ length l.s) × (later_stand l.k l.both l.before (drop l.p l.s) ≡ later_stand l.left 3 l.departure (drop (service_head + call_size * l.from) l.s))

abbrev pub decreases-loop-k : goal.decreases-loop-k
decreases-loop-k l = l.k
