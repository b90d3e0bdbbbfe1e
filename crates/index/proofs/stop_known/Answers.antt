use Rattle.index.proofs.Shows.{shows-stops}
use Rattle.index.proofs.stop_known.Goals as goal

pub find-requires-clause-fits : goal.find-requires-clause-fits
find-requires-clause-fits c = search shows-stops

pub returns : goal.returns
returns c = search shows-stops
