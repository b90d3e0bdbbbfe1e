use Rattle.base.proofs.Laws.{tests}
use Rattle.estelunya.proofs.estelunya_room.Goals as goal

pub room_for-requires : goal.room_for-requires
room_for-requires c = search tests

pub returns : goal.returns
returns c = search tests
