use Prim.Native.Nat.{◌-◌}
use Rattle.bitfield.specs.BitField.{bit_words}
use Rattle.bitfield.proofs.Fill.{Filled}
use Rattle.day_sets.specs.DaySets.{word_of, bit_in}
use Rattle.day_sets.proofs.in_frame.Given as goal

abbrev pub invariant-loop-i : goal.invariant-loop-i
invariant-loop-i l = Filled (word_of (bit_in l.n l.days)) l.r l.i
