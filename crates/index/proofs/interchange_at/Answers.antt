use Rattle.index.proofs.Shows.{shows-times}
use Rattle.index.proofs.interchange_at.Goals as goal

pub find-requires-clause-fits : goal.find-requires-clause-fits
find-requires-clause-fits c = search shows-times

pub times_at-requires : goal.times_at-requires
times_at-requires c = search shows-times

pub times_at-requires-in-None : goal.times_at-requires-in-None
times_at-requires-in-None c = search shows-times

pub returns-in-Some : goal.returns-in-Some
returns-in-Some c = search shows-times

pub returns-in-None : goal.returns-in-None
returns-in-None c = search shows-times
