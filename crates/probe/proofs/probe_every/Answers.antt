use Rattle.base.proofs.Laws.{tests}
use Rattle.probe.proofs.probe_every.Goals as goal

pub class_of-requires : goal.class_of-requires
class_of-requires c = search tests

pub every_in-requires : goal.every_in-requires
every_in-requires c = search tests

pub returns : goal.returns
returns c = cc
