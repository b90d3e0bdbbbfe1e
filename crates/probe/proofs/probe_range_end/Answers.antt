use Rattle.base.proofs.Laws.{tests}
use Rattle.probe.proofs.probe_range_end.Goals as goal

pub range_end_in-requires : goal.range_end_in-requires
range_end_in-requires c = search tests

pub flat_end-requires : goal.flat_end-requires
flat_end-requires c = search tests

pub returns : goal.returns
returns c = cc
