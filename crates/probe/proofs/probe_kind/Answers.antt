use Rattle.base.proofs.Laws.{tests}
use Rattle.probe.proofs.probe_kind.Goals as goal

pub kind_of-requires : goal.kind_of-requires
kind_of-requires c = search tests

pub flat_kind-requires : goal.flat_kind-requires
flat_kind-requires c = search tests

pub returns : goal.returns
returns c = cc
