use Rattle.names.proofs.Laws.{asking}
use Rattle.names.proofs.type_digit.Goals as goal

pub returns-then-nametype-eq0 : goal.returns-then-nametype-eq0
returns-then-nametype-eq0 c = search asking

pub overflow_cast-result : goal.overflow_cast-result
overflow_cast-result c = search asking

pub overflow_add-result : goal.overflow_add-result
overflow_add-result c = search asking

pub returns : goal.returns
returns c = search asking
