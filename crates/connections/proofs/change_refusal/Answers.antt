use Rattle.connections.proofs.Stages.{refusals}
use Rattle.connections.proofs.change_refusal.Goals as goal

pub returns-then-not-same : goal.returns-then-not-same
returns-then-not-same c = search refusals

pub returns-then-not-listed : goal.returns-then-not-listed
returns-then-not-listed c = search refusals

pub returns-then-not-long : goal.returns-then-not-long
returns-then-not-long c = search refusals

pub returns : goal.returns
returns c = search refusals
