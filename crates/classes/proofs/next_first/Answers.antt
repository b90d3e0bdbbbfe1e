use Rattle.base.proofs.Laws.{tests}
use Rattle.classes.proofs.next_first.Goals as goal

pub returns-then-first-next : goal.returns-then-first-next
returns-then-first-next c = search tests

pub returns-else-first-next : goal.returns-else-first-next
returns-else-first-next c = search tests

pub returns-else-b-first : goal.returns-else-b-first
returns-else-b-first c = search tests
