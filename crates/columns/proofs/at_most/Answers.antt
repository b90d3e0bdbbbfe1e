use Rattle.columns.proofs.Laws.{sums}
use Rattle.columns.proofs.at_most.Goals as goal

pub returns-then-most-n : goal.returns-then-most-n
returns-then-most-n c = search sums

pub loop-i-preserved : goal.loop-i-preserved
loop-i-preserved c = search sums

pub returns : goal.returns
returns c = search sums
