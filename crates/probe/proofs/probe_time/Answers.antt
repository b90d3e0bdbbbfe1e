use Rattle.base.proofs.Laws.{tests}
use Rattle.probe.proofs.probe_time.Goals as goal

pub time_in-requires : goal.time_in-requires
time_in-requires c = search tests

pub flat_time-requires : goal.flat_time-requires
flat_time-requires c = search tests

pub returns : goal.returns
returns c = cc
