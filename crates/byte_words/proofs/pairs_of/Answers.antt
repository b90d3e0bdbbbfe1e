use Rattle.byte_words.proofs.Numbers.{pairing}
use Rattle.byte_words.proofs.pairs_of.Goals as goal

pub overflow_mul-result : goal.overflow_mul-result
overflow_mul-result c = search pairing

pub overflow_add-result : goal.overflow_add-result
overflow_add-result c = search pairing

pub returns : goal.returns
returns c = search pairing
