use mathlib.Core.Path.{◌≡◌}
use Prim.Native.Nat.{◌-◌}
use Rattle.base.specs.Lists.{every, upto}
use Rattle.bitfield.specs.BitField.{bit_words}
use Rattle.bitfield.specs.Inner.Bits.{zero_at, no_bit}
use Rattle.bitfield.proofs.has_no_bit.Given as goal

abbrev pub invariant-loop-i : goal.invariant-loop-i
invariant-loop-i l = every (zero_at l.b) (upto (bit_words - l.i) l.i) ≡ no_bit l.b
