use Rattle.base.proofs.Laws.{tests}
use Rattle.timetable.proofs.attribute_part.Goals as goal

pub returns-then-code-eq-VE : goal.returns-then-code-eq-VE
returns-then-code-eq-VE c = search tests

pub returns-else-code-eq-VE : goal.returns-else-code-eq-VE
returns-else-code-eq-VE c = search tests
