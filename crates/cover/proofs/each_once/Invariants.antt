use mathlib.Core.Path.{◌≡◌}
use Prim.Native.Nat.{◌-◌}
use Rattle.base.specs.Lists.{every, upto, below}
use Rattle.cover.specs.Inner.Cover.{once_in}
use Rattle.cover.proofs.each_once.Given as goal

abbrev pub invariant-loop-leg : goal.invariant-loop-leg
invariant-loop-leg l = every (once_in l.width l.n l.w) (upto (l.legs - l.leg) l.leg) ≡ every (once_in l.width l.n l.w) (below l.legs)
