use Rattle.table.proofs.steady.Laws.{by-four}
use Rattle.table.proofs.steady.later_steady.Goals as goal

pub returns-then-not-four_pass : goal.returns-then-not-four_pass
returns-then-not-four_pass c = search by-four

pub loop-preserved : goal.loop-preserved
loop-preserved c = search by-four
