use Rattle.base.proofs.Laws.{tests}
use Rattle.probe.proofs.probe_detail.Goals as goal

pub detail_in-requires : goal.detail_in-requires
detail_in-requires c = search tests

pub flat_detail-requires : goal.flat_detail-requires
flat_detail-requires c = search tests

pub returns : goal.returns
returns c = cc
