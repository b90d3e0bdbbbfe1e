use Rattle.base.proofs.Laws.{tests}
use Rattle.connections.proofs.in_rows.Goals as goal

pub returns-then-call-start : goal.returns-then-call-start
returns-then-call-start c = search tests

pub overflow_add-result : goal.overflow_add-result
overflow_add-result c = search tests

pub returns : goal.returns
returns c = search tests
