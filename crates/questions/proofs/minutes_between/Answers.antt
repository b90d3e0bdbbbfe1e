use Rattle.questions.proofs.Laws.{categories}
use Rattle.questions.proofs.minutes_between.Goals as goal

pub interchange_at-times-requires : goal.interchange_at-times-requires
interchange_at-times-requires c = search categories

pub class_for-requires : goal.class_for-requires
class_for-requires c = search categories

pub class_for-requires-2 : goal.class_for-requires-2
class_for-requires-2 c = search categories

pub minutes-requires : goal.minutes-requires
minutes-requires c = search categories

pub returns : goal.returns
returns c = search categories
