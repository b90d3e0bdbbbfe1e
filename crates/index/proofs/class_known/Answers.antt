use Rattle.index.proofs.Shows.{shows-classes}
use Rattle.index.proofs.class_known.Goals as goal

pub find-requires-clause-fits : goal.find-requires-clause-fits
find-requires-clause-fits c = search shows-classes

pub returns : goal.returns
returns c = search shows-classes
