use Rattle.bitfield.proofs.Frame.{frames}
use Rattle.bitfield.proofs.is_framed.Goals as goal

pub returns-then-two_bits-2 : goal.returns-then-two_bits-2
returns-then-two_bits-2 c = search frames

pub returns-else-two_bits-2 : goal.returns-else-two_bits-2
returns-else-two_bits-2 c = search frames

pub returns-else-two_bits : goal.returns-else-two_bits
returns-else-two_bits c = search frames
