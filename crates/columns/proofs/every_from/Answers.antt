use Rattle.columns.proofs.Laws.{turns}
use Rattle.columns.proofs.every_from.Goals as goal

pub loop-i-preserved : goal.loop-i-preserved
loop-i-preserved c = search turns

pub returns : goal.returns
returns c = search turns

pub returns-then-not-is_of : goal.returns-then-not-is_of
returns-then-not-is_of c = search turns
