use Rattle.index.specs.Index.{view_in}
use mathlib.Core.Path.{◌≡◌}
use Prim.Native.Nat.{◌+◌, ◌-◌, ◌*◌, ◌≤◌}
use lib.ListN.{length, drop}
use Rattle.base.specs.Lists.{every}
use Rattle.timetable.specs.Layout.{day_size}
use Rattle.timetable.specs.Table.{rows_in, day_at}
use Rattle.course.specs.Inner.Run.{range_known}
use Rattle.course.proofs.legs.ranges_known.Given as goal

abbrev pub invariant-loop-i : goal.invariant-loop-i
invariant-loop-i l = (l.p + (l.n - l.i) * day_size ≤ length l.v) × (every (range_known (view_in l.w l.x) l.leg) (rows_in day_at day_size (l.n - l.i) (drop l.p l.v)) ≡ every (range_known (view_in l.w l.x) l.leg) (rows_in day_at day_size l.n l.v))
