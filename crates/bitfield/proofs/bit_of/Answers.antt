use mathlib.Core.Path.{refl}
use Rattle.bitfield.specs.BitField.{bit}
use Rattle.bitfield.proofs.bit_of.Goals as goal

pub returns : goal.returns
unfolding bit
returns c = refl
