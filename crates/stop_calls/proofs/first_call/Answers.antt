use Rattle.stop_calls.proofs.Needs.{firsts}
use Rattle.stop_calls.proofs.first_call.Goals as goal

pub from_stop-requires : goal.from_stop-requires
from_stop-requires c = search firsts

pub returns : goal.returns
returns c = search firsts
