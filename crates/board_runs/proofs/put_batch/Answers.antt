use Rattle.board_runs.proofs.Needs.{rows}
use Rattle.board_runs.proofs.put_batch.Goals as goal

pub loop-r-init : goal.loop-r-init
loop-r-init c = search rows

pub overflow_add-to : goal.overflow_add-to
overflow_add-to c = search rows

pub loop-r-preserved : goal.loop-r-preserved
loop-r-preserved c = (search rows, search rows, search rows)

pub returns : goal.returns
returns c = search rows
