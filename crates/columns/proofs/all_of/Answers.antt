use Rattle.columns.proofs.Laws.{alls}
use Rattle.columns.proofs.all_of.Goals as goal

pub loop-i-preserved : goal.loop-i-preserved
loop-i-preserved c = search alls

pub returns : goal.returns
returns c = search alls
