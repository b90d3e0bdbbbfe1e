use Rattle.fields.proofs.Laws.{readers}
use Rattle.fields.proofs.time_of.Goals as goal

pub returns-then-every_of : goal.returns-then-every_of
returns-then-every_of c = search readers

pub returns-in-32 : goal.returns-in-32
returns-in-32 c = search readers

pub returns-in-45 : goal.returns-in-45
returns-in-45 c = search readers

pub returns-in_default : goal.returns-in_default
returns-in_default c = search readers
