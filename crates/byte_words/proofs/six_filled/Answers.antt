use Rattle.byte_words.proofs.Masks.{masking}
use Rattle.byte_words.proofs.six_filled.Goals as goal

pub returns : goal.returns
returns c = search masking
