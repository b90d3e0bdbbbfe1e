use Rattle.service_lines.proofs.Calls.{call}
use Rattle.service_lines.proofs.call_shown.Goals as goal

pub call_at-c-requires : goal.call_at-c-requires
call_at-c-requires c = search call

pub stop_number-requires : goal.stop_number-requires
stop_number-requires c = search call

pub returns : goal.returns
returns c = search call
