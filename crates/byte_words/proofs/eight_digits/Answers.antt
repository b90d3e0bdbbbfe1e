use Rattle.byte_words.proofs.Numbers.{flips}
use Rattle.byte_words.proofs.eight_digits.Goals as goal

pub returns : goal.returns
returns c = search flips
