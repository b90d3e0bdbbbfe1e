use Rattle.index.specs.Index.{view_in}
use mathlib.Core.Path.{◌≡◌}
use mathlib.Core.List.{map}
use Prim.Native.Nat.{◌+◌, ◌-◌}
use Rattle.base.specs.Lists.{upto}
use Rattle.timetable.specs.Legs.{operated_by}
use Rattle.timetable.specs.Table.{service_at}
use Rattle.course.specs.Inner.Run.{gap}
use Rattle.course.proofs.legs.next_leg.Given as goal

abbrev pub invariant-loop-leg : goal.invariant-loop-leg
invariant-loop-leg l = l.leg + gap l.on (map (operated_by (view_in l.w l.x).runs (service_at l.s).days l.k) (upto (l.legs - l.leg) l.leg)) ≡ l.from + gap l.on (map (operated_by (view_in l.w l.x).runs (service_at l.s).days l.k) (upto (l.legs - l.from) l.from))

abbrev pub decreases-loop-leg : goal.decreases-loop-leg
decreases-loop-leg l = l.legs - l.leg
