use Rattle.sections.proofs.Lookups.{knows}
use Rattle.sections.proofs.known_stop.Goals as goal

pub returns : goal.returns
returns c = search knows
