use Rattle.sections.proofs.Bits.{bits}
use Rattle.sections.proofs.field_bits.Goals as goal

pub returns-in_default : goal.returns-in_default
returns-in_default c = search bits

pub place_of-requires : goal.place_of-requires
place_of-requires c = search bits

pub returns : goal.returns
returns c = search bits
