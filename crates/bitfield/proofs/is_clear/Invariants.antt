use mathlib.Core.Path.{◌≡◌}
use Prim.Native.Nat.{◌-◌}
use Rattle.bitfield.specs.BitField.{bit_count}
use Rattle.bitfield.specs.Inner.Bits.{clear_from}
use Rattle.bitfield.proofs.is_clear.Given as goal

abbrev pub invariant-loop-k : goal.invariant-loop-k
invariant-loop-k l = clear_from l.k l.b ≡ clear_from l.from l.b

abbrev pub decreases-loop-k : goal.decreases-loop-k
decreases-loop-k l = bit_count - l.k
