use Rattle.board_runs.proofs.Goes.{slowly}
use Rattle.board_runs.proofs.stands.Goals as goal

pub record_sound-requires : goal.record_sound-requires
record_sound-requires c = search slowly

pub returns-then-not-record_sound : goal.returns-then-not-record_sound
returns-then-not-record_sound c = search slowly

pub calls_refusal-requires : goal.calls_refusal-requires
calls_refusal-requires c = search slowly

pub returns : goal.returns
returns c = search slowly
