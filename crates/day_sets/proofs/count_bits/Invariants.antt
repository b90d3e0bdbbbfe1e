use mathlib.Core.Path.{◌≡◌}
use Prim.Native.Nat.{◌+◌, ◌-◌, ◌≤◌}
use Rattle.base.specs.Lists.{count_if, upto}
use Rattle.bitfield.specs.BitField.{bit}
use Rattle.day_sets.proofs.count_bits.Given as goal

abbrev pub invariant-loop-k : goal.invariant-loop-k
invariant-loop-k l = (l.count ≤ l.k) × (l.count + count_if (bit l.bits) (upto (l.to - l.k) l.k) ≡ count_if (bit l.bits) (upto (l.to - l.from) l.from))
