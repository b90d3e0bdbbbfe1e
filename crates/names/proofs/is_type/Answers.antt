use Rattle.names.proofs.Laws.{loops}
use Rattle.names.proofs.is_type.Goals as goal

pub returns-in-49-to-57 : goal.returns-in-49-to-57
returns-in-49-to-57 c = search loops

pub returns-in_default : goal.returns-in_default
returns-in_default c = search loops

pub returns-in_default-2 : goal.returns-in_default-2
returns-in_default-2 c = search loops
