use Rattle.index.proofs.Shows.{shows-names}
use Rattle.index.proofs.stop_name.Goals as goal

pub find-requires-clause-fits : goal.find-requires-clause-fits
find-requires-clause-fits c = search shows-names

pub returns-in_err-p : goal.returns-in_err-p
returns-in_err-p c = search shows-names

pub name_at-requires : goal.name_at-requires
name_at-requires c = search shows-names

pub returns : goal.returns
returns c = search shows-names
