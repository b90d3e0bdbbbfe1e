use Rattle.base.proofs.Laws.{tests}
use Rattle.connections.proofs.whole_parts.Goals as goal

pub returns-then-n-ne0 : goal.returns-then-n-ne0
returns-then-n-ne0 c = search tests

pub returns : goal.returns
returns c = search tests
