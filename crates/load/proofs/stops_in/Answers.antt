use Rattle.base.proofs.Laws.{tests}
use Rattle.load.proofs.Helper.{stops-after}
use Rattle.load.proofs.stops_in.Goals as goal

pub returns-clause-stops_after : goal.returns-clause-stops_after
returns-clause-stops_after c = search stops-after
