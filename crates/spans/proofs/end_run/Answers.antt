use Rattle.spans.proofs.Laws.{spans}
use Rattle.spans.proofs.end_run.Goals as goal

pub returns-then-last-departure : goal.returns-then-last-departure
returns-then-last-departure c = search spans

pub returns : goal.returns
returns c = search spans
