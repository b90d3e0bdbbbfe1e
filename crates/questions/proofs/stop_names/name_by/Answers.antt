use Rattle.questions.proofs.stop_names.Laws.{names}
use Rattle.questions.proofs.stop_names.name_by.Goals as goal

pub returns-in_default : goal.returns-in_default
returns-in_default c = search names

pub returns : goal.returns
returns c = search names
