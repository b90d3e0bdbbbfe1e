use Rattle.table.proofs.steady.Laws.{all-calls}
use Rattle.table.proofs.steady.calls_steady.Goals as goal

pub returns-then-not-opens : goal.returns-then-not-opens
returns-then-not-opens c = search all-calls

pub returns : goal.returns
returns c = search all-calls
