use Rattle.base.proofs.Laws.{tests}
use Rattle.probe.proofs.probe_date.Goals as goal

pub date_in-requires : goal.date_in-requires
date_in-requires c = search tests

pub flat_number-requires : goal.flat_number-requires
flat_number-requires c = search tests

pub returns : goal.returns
returns c = cc
