use mathlib.Core.Path.{◌≡◌}
use Prim.Native.Nat.{◌+◌, ◌-◌, ◌*◌, ◌≤◌}
use lib.ListN.{length, drop}
use Rattle.timetable.specs.Layout.{day_size}
use Rattle.timetable.specs.Table.{rows_in, day_at}
use Rattle.index.specs.Index.{view_in}
use Rattle.course.specs.Inner.Turn.{no_legs, ranges_say}
use Rattle.course.proofs.legs.day_legs.Given as goal

abbrev pub invariant-loop-i : goal.invariant-loop-i
invariant-loop-i l = (l.p + (l.n - l.i) * day_size ≤ length l.v) × (ranges_say (view_in l.w l.x) l.k l.seen (rows_in day_at day_size (l.n - l.i) (drop l.p l.v)) ≡ ranges_say (view_in l.w l.x) l.k no_legs (rows_in day_at day_size l.n l.v))
