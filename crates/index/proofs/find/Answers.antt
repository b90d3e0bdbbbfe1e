use Rattle.index.proofs.Places.{finds}
use Rattle.index.proofs.find.Goals as goal

pub returns-then-x-eq0 : goal.returns-then-x-eq0
returns-then-x-eq0 c = search finds

pub returns-then-e-eq0 : goal.returns-then-e-eq0
returns-then-e-eq0 c = search finds

pub overflow_mul-result : goal.overflow_mul-result
overflow_mul-result c = search finds

pub overflow_sub-result : goal.overflow_sub-result
overflow_sub-result c = search finds

pub returns : goal.returns
returns c = search finds
