use Rattle.service.proofs.Legs.{turning}
use Rattle.service.proofs.each_once.Goals as goal

pub in_turn-requires : goal.in_turn-requires
in_turn-requires c = search turning

pub returns-then-in_turn : goal.returns-then-in_turn
returns-then-in_turn c = search turning

pub each_once-requires : goal.each_once-requires
each_once-requires c = search turning

pub returns : goal.returns
returns c = search turning
