use Rattle.spans.proofs.Laws.{spans}
use Rattle.spans.proofs.first_run.Goals as goal

pub returns-then-first-departure : goal.returns-then-first-departure
returns-then-first-departure c = search spans

pub returns : goal.returns
returns c = search spans
