use Rattle.base.specs.Lists.{every}
use Rattle.writable.proofs.Laws.{steps}
use Rattle.writable.proofs.two_held.Goals as goal

pub returns-then-n-eq-LF : goal.returns-then-n-eq-LF
unfolding every
returns-then-n-eq-LF c = search steps

pub returns : goal.returns
unfolding every
returns c = search steps
