use Rattle.spans.proofs.Laws.{spans}
use Rattle.spans.proofs.runs_between.Goals as goal

pub returns : goal.returns
returns c = search spans
