use Rattle.classes.proofs.Once.{rising}
use Rattle.classes.proofs.above.Goals as goal

pub overflow_add-result : goal.overflow_add-result
overflow_add-result c = search rising

pub returns-then-code-eq-NO_CODE : goal.returns-then-code-eq-NO_CODE
returns-then-code-eq-NO_CODE c = search rising

pub returns-else-code-eq-NO_CODE : goal.returns-else-code-eq-NO_CODE
returns-else-code-eq-NO_CODE c = search rising
