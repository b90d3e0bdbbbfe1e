use Rattle.byte_words.proofs.Numbers.{flips}
use Rattle.byte_words.proofs.five_values.Goals as goal

pub returns : goal.returns
returns c = search flips
