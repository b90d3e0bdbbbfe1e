use Rattle.questions.proofs.Laws.{categories}
use Rattle.questions.proofs.both_listed.Goals as goal

pub class_known-requires : goal.class_known-requires
class_known-requires c = search categories

pub returns-then-not-class_known : goal.returns-then-not-class_known
returns-then-not-class_known c = search categories

pub class_known-requires-2 : goal.class_known-requires-2
class_known-requires-2 c = search categories

pub returns : goal.returns
returns c = search categories
