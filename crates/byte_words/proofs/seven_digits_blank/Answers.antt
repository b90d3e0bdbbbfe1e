use Rattle.byte_words.proofs.Masks.{masking}
use Rattle.byte_words.proofs.seven_digits_blank.Goals as goal

pub returns : goal.returns
returns c = search masking
