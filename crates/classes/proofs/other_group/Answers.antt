use Rattle.base.proofs.Laws.{tests}
use Rattle.classes.proofs.other_group.Goals as goal

pub returns-then-group-eq0 : goal.returns-then-group-eq0
returns-then-group-eq0 c = search tests

pub returns-then-own-eq0 : goal.returns-then-own-eq0
returns-then-own-eq0 c = search tests

pub returns : goal.returns
returns c = search tests
