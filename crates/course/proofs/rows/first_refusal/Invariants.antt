use mathlib.Core.Path.{◌≡◌}
use Prim.Native.Nat.{◌+◌, ◌-◌, ◌≤◌}
use Rattle.timetable.specs.Table.{service_at}
use Rattle.timetable.specs.Run.{calls_refusal}
use Rattle.course.specs.Inner.Rows.{calls_from}
use Rattle.course.proofs.rows.first_refusal.Given as goal

abbrev pub invariant-loop-i : goal.invariant-loop-i
invariant-loop-i l = (l.i ≤ l.legs + 1) × (calls_refusal (service_at l.s) l.start l.legs l.i l.before (calls_from l.s (l.start + l.i) (l.legs + 1 - l.i)) ≡ calls_refusal (service_at l.s) l.start l.legs 0 0 (calls_from l.s l.start (l.legs + 1)))

abbrev pub decreases-loop-i : goal.decreases-loop-i
decreases-loop-i l = l.legs + 1 - l.i
