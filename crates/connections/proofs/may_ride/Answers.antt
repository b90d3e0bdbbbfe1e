use Rattle.base.proofs.Laws.{tests}
use Rattle.connections.proofs.may_ride.Goals as goal

pub returns-then-alight-board : goal.returns-then-alight-board
returns-then-alight-board c = search tests

pub returns-then-boarding-ne0 : goal.returns-then-boarding-ne0
returns-then-boarding-ne0 c = search tests

pub returns : goal.returns
returns c = search tests
