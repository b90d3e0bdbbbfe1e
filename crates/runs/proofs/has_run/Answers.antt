use Rattle.runs.proofs.Laws.{runs}
use Rattle.runs.proofs.has_run.Goals as goal

pub returns-then-opening-eq-KIND_T : goal.returns-then-opening-eq-KIND_T
returns-then-opening-eq-KIND_T c = search runs

pub returns : goal.returns
returns c = search runs
