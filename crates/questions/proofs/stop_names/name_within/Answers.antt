use Rattle.questions.proofs.stop_names.Laws.{parts}
use Rattle.questions.proofs.stop_names.name_within.Goals as goal

pub overflow_add-result : goal.overflow_add-result
overflow_add-result c = search parts
