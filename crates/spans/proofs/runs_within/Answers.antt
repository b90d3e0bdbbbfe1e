use Rattle.spans.proofs.Laws.{counts}
use Rattle.spans.proofs.runs_within.Goals as goal

pub overflow_mul-result : goal.overflow_mul-result
overflow_mul-result c = search counts

pub nonzero_div-result : goal.nonzero_div-result
nonzero_div-result c = search counts

pub overflow_add-result : goal.overflow_add-result
overflow_add-result c = search counts

pub returns-then-opening-eq-KIND_T : goal.returns-then-opening-eq-KIND_T
returns-then-opening-eq-KIND_T c = search counts

pub overflow_add-result-then-opening-eq0 : goal.overflow_add-result-then-opening-eq0
overflow_add-result-then-opening-eq0 c = search counts

pub returns-then-opening-eq0 : goal.returns-then-opening-eq0
returns-then-opening-eq0 c = search counts

pub overflow_add-result-2 : goal.overflow_add-result-2
overflow_add-result-2 c = search counts

pub returns : goal.returns
returns c = search counts
