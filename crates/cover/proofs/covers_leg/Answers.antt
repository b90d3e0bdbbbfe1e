use Rattle.base.proofs.Laws.{tests}
use Rattle.cover.proofs.covers_leg.Goals as goal

pub returns-then-legs-leg : goal.returns-then-legs-leg
returns-then-legs-leg c = search tests

pub returns-else-legs-leg : goal.returns-else-legs-leg
returns-else-legs-leg c = search tests
