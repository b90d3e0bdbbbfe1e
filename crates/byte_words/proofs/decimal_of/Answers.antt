use Rattle.byte_words.proofs.Numbers.{eights}
use Rattle.byte_words.proofs.decimal_of.Goals as goal

pub overflow_mul-fours : goal.overflow_mul-fours
overflow_mul-fours c = search eights

pub overflow_add-fours : goal.overflow_add-fours
overflow_add-fours c = search eights

pub returns : goal.returns
returns c = search eights
