use Rattle.bitfield.proofs.Sets.{no-bit}
use Rattle.bitfield.proofs.no_bits.Goals as goal

pub returns : goal.returns
returns c = no-bit
