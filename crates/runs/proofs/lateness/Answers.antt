use Rattle.runs.proofs.Laws.{runs}
use Rattle.runs.proofs.lateness.Goals as goal

pub overflow_cast-result : goal.overflow_cast-result
overflow_cast-result c = search runs

pub returns-then-opening-eq-KIND_T-clause-is : goal.returns-then-opening-eq-KIND_T-clause-is
returns-then-opening-eq-KIND_T-clause-is c = search runs

pub returns-then-opening-eq-KIND_T-clause-low : goal.returns-then-opening-eq-KIND_T-clause-low
returns-then-opening-eq-KIND_T-clause-low c = search runs

pub overflow_mul-result : goal.overflow_mul-result
overflow_mul-result c = search runs

pub returns-clause-is : goal.returns-clause-is
returns-clause-is c = search runs

pub returns-clause-low : goal.returns-clause-low
returns-clause-low c = search runs
