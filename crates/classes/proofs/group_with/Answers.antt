use Rattle.base.proofs.Laws.{tests}
use Rattle.classes.proofs.group_with.Goals as goal

pub returns-then-group-eq0 : goal.returns-then-group-eq0
returns-then-group-eq0 c = search tests

pub returns-else-group-eq0 : goal.returns-else-group-eq0
returns-else-group-eq0 c = search tests
