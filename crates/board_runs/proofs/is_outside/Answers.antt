use Rattle.base.proofs.Laws.{tests}
use Rattle.board_runs.proofs.is_outside.Goals as goal

pub returns-then-last-departure : goal.returns-then-last-departure
returns-then-last-departure c = search tests

pub returns-then-first-departure : goal.returns-then-first-departure
returns-then-first-departure c = search tests

pub returns : goal.returns
returns c = search tests
