use Rattle.board_runs.proofs.Needs.{batches}
use Rattle.board_runs.proofs.span_batch.Goals as goal

pub runs_between-span-requires : goal.runs_between-span-requires
runs_between-span-requires c = search batches

pub returns : goal.returns
returns c = search batches
