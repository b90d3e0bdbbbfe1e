use Rattle.board_runs.proofs.Goes.{one-call}
use Rattle.board_runs.proofs.call_stands.Goals as goal

pub call_of-requires : goal.call_of-requires
call_of-requires c = search one-call

pub call_sound-requires : goal.call_sound-requires
call_sound-requires c = search one-call

pub returns : goal.returns
returns c = search one-call
