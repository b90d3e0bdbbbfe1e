use Rattle.byte_words.proofs.Masks.{masking}
use Rattle.byte_words.proofs.are_nines.Goals as goal

pub returns : goal.returns
returns c = search masking
