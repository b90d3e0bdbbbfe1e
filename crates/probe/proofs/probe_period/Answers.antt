use Rattle.base.proofs.Laws.{tests}
use Rattle.probe.proofs.probe_period.Goals as goal

pub period_of-requires : goal.period_of-requires
period_of-requires c = search tests

pub flat_number-requires : goal.flat_number-requires
flat_number-requires c = search tests

pub returns : goal.returns
returns c = cc
