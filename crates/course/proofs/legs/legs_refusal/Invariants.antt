use Rattle.index.specs.Index.{view_in}
use mathlib.Core.Path.{◌≡◌}
use Prim.Native.Nat.{◌-◌}
use Rattle.base.specs.Lists.{upto, below}
use Rattle.timetable.specs.Table.{service_at}
use Rattle.timetable.specs.Run.{leg_refusal, first_refusal}
use Rattle.course.proofs.legs.legs_refusal.Given as goal

abbrev pub invariant-loop-leg : goal.invariant-loop-leg
invariant-loop-leg l = first_refusal (leg_refusal (view_in l.w l.x) (service_at l.s)) (upto (l.legs - l.leg) l.leg) ≡ first_refusal (leg_refusal (view_in l.w l.x) (service_at l.s)) (below l.legs)
