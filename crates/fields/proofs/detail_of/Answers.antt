use Rattle.fields.proofs.Laws.{readers}
use Rattle.fields.proofs.detail_of.Goals as goal

pub returns-then-every_of : goal.returns-then-every_of
returns-then-every_of c = search readers

pub returns : goal.returns
returns c = search readers
