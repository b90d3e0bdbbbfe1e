use Rattle.index.proofs.Shows.{bits}
use Rattle.index.proofs.bit_at.Goals as goal

pub returns : goal.returns
returns c = search bits
