use Rattle.lookups.proofs.Search.{turns}
use Rattle.lookups.proofs.find.Goals as goal

pub returns-then-w-p : goal.returns-then-w-p
returns-then-w-p c = search turns

pub returns : goal.returns
returns c = search turns
