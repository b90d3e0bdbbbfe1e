use Rattle.bitfield.proofs.Pack.{packing}
use Rattle.bitfield.proofs.eight_digits.Goals as goal

pub eight_hex-requires : goal.eight_hex-requires
eight_hex-requires c = search packing

pub returns : goal.returns
returns c = search packing
