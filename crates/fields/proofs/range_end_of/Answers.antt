use Rattle.fields.proofs.Laws.{readers}
use Rattle.fields.proofs.range_end_of.Goals as goal

pub returns-then-every_of : goal.returns-then-every_of
returns-then-every_of c = search readers

pub returns-then-every_of-2 : goal.returns-then-every_of-2
returns-then-every_of-2 c = search readers

pub returns : goal.returns
returns c = search readers
