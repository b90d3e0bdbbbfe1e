use Rattle.columns.proofs.Laws.{turns}
use Rattle.columns.proofs.number_of.Goals as goal

pub overflow_mul-n : goal.overflow_mul-n
overflow_mul-n c = search turns

pub overflow_add-n : goal.overflow_add-n
overflow_add-n c = search turns

pub loop-i-preserved : goal.loop-i-preserved
loop-i-preserved c = search turns

pub returns : goal.returns
returns c = search turns
