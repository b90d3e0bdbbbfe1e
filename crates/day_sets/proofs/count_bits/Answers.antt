use Rattle.day_sets.proofs.Loops.{counts}
use Rattle.day_sets.proofs.count_bits.Goals as goal

pub loop-k-init : goal.loop-k-init
loop-k-init c = search counts

pub overflow_add-count : goal.overflow_add-count
overflow_add-count c = search counts

pub loop-k-preserved : goal.loop-k-preserved
loop-k-preserved c = search counts

pub returns : goal.returns
returns c = search counts
