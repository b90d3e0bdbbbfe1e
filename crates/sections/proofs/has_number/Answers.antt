use Rattle.sections.proofs.Lookups.{looks}
use Rattle.sections.proofs.has_number.Goals as goal

pub returns : goal.returns
returns c = search looks
