use Rattle.board_runs.proofs.Needs.{stops}
use Rattle.board_runs.proofs.boards_at.Goals as goal

pub stop_number-requires : goal.stop_number-requires
stop_number-requires c = search stops

pub returns-then-stop_number-n : goal.returns-then-stop_number-n
returns-then-stop_number-n c = search stops

pub returns : goal.returns
returns c = search stops
