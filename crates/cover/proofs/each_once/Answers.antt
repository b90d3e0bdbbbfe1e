use Rattle.base.proofs.Laws.{tests}
use Rattle.base.proofs.Loops.{counting}
use Rattle.cover.proofs.each_once.Goals as goal

pub returns-then-not-covered_once : goal.returns-then-not-covered_once
returns-then-not-covered_once c = search (tests, counting)

pub loop-leg-preserved : goal.loop-leg-preserved
loop-leg-preserved c = search (tests, counting)

pub returns : goal.returns
returns c = search (tests, counting)
