use Rattle.calls_check.proofs.Entries.{routes}
use Rattle.calls_check.proofs.route_right.Goals as goal

pub returns-then-not-entry_right : goal.returns-then-not-entry_right
returns-then-not-entry_right c = search routes

pub loop-p-preserved : goal.loop-p-preserved
loop-p-preserved c = search routes

pub returns : goal.returns
returns c = search routes
