use Rattle.table.proofs.steady.Laws.{later}
use Rattle.table.proofs.steady.few_steady.Goals as goal

pub returns-then-not-passes : goal.returns-then-not-passes
returns-then-not-passes c = search later

pub loop-preserved : goal.loop-preserved
loop-preserved c = search later

pub returns : goal.returns
returns c = search later
