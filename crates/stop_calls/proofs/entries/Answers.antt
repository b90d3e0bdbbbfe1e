use Rattle.stop_calls.proofs.Needs.{ends}
use Rattle.stop_calls.proofs.entries.Goals as goal

pub returns : goal.returns
returns c = search ends
