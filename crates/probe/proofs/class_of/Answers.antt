use Rattle.base.proofs.Laws.{tests}
use Rattle.probe.proofs.class_of.Goals as goal

pub returns-in_default : goal.returns-in_default
returns-in_default c = search tests
