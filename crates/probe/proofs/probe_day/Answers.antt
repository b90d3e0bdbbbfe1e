use Rattle.base.proofs.Laws.{tests}
use Rattle.probe.proofs.probe_day.Goals as goal

pub day_of-requires : goal.day_of-requires
day_of-requires c = search tests

pub flat_number-requires : goal.flat_number-requires
flat_number-requires c = search tests

pub returns : goal.returns
returns c = cc
