use Rattle.base.proofs.Laws.{tests}
use Rattle.told.proofs.is_sign.Goals as goal

pub returns-then-b-eq32 : goal.returns-then-b-eq32
returns-then-b-eq32 c = search tests

pub returns : goal.returns
returns c = search tests
