use Rattle.chain_check.proofs.Needs.{tells}
use Rattle.chain_check.proofs.is_chained.Goals as goal

pub wide-requires : goal.wide-requires
wide-requires c = search tells

pub overflow_mul-wide : goal.overflow_mul-wide
overflow_mul-wide c = search tells

pub returns-then-m-wide : goal.returns-then-m-wide
returns-then-m-wide c = search tells

pub total-requires : goal.total-requires
total-requires c = search tells

pub count-requires : goal.count-requires
count-requires c = search tells

pub returns : goal.returns
returns c = search tells
