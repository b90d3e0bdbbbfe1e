use mathlib.Core.Path.{◌≡◌}
use Prim.Native.Nat.{◌-◌}
use Rattle.base.specs.Lists.{some_of, upto}
use Rattle.bitfield.specs.BitField.{runs_on, some_day}
use Rattle.bitfield.proofs.day_by_day.Given as goal

abbrev pub invariant-loop-d : goal.invariant-loop-d
invariant-loop-d l = some_of (runs_on l.b) (upto (l.n - l.d) l.d) ≡ some_day l.n l.b
