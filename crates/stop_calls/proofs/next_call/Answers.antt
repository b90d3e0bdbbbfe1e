use Rattle.stop_calls.proofs.Needs.{nexts}
use Rattle.stop_calls.proofs.next_call.Goals as goal

pub from_stop-requires : goal.from_stop-requires
from_stop-requires c = search nexts
