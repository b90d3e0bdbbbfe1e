use Rattle.table.proofs.steady.Laws.{fours}
use Rattle.table.proofs.steady.four_pass.Goals as goal

pub returns-then-not-two_pass : goal.returns-then-not-two_pass
returns-then-not-two_pass c = search fours

pub returns : goal.returns
returns c = search fours
