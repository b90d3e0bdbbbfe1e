use Rattle.base.proofs.Laws.{tests}
use Rattle.cover.proofs.covered_once.Goals as goal

pub covering-requires : goal.covering-requires
covering-requires c = search tests

pub returns : goal.returns
returns c = cc
