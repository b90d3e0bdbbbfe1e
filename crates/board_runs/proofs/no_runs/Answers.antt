use Rattle.board_runs.proofs.Needs.{batches}
use Rattle.board_runs.proofs.no_runs.Goals as goal

pub returns : goal.returns
returns c = search batches
