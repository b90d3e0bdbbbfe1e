use Rattle.bitfield.proofs.Sets.{each-bit}
use Rattle.bitfield.proofs.all_bits.Goals as goal

pub returns : goal.returns
returns c = each-bit
