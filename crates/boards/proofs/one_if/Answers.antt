use Rattle.boards.proofs.Needs.{ones}
use Rattle.boards.proofs.one_if.Goals as goal

pub returns-then-most-eq0 : goal.returns-then-most-eq0
returns-then-most-eq0 c = search ones

pub returns : goal.returns
returns c = search ones
