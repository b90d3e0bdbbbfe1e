use Rattle.table.proofs.steady.Laws.{twos}
use Rattle.table.proofs.steady.two_pass.Goals as goal

pub returns-then-not-passes : goal.returns-then-not-passes
returns-then-not-passes c = search twos

pub returns : goal.returns
returns c = search twos
