use Rattle.board_runs.proofs.Needs.{courses}
use Rattle.board_runs.proofs.is_left.Goals as goal

pub returns-then-p-start : goal.returns-then-p-start
returns-then-p-start c = search courses

pub returns : goal.returns
returns c = search courses
