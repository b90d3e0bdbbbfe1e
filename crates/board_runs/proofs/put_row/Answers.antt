use Rattle.board_runs.proofs.Needs.{row}
use Rattle.board_runs.proofs.put_row.Goals as goal

pub lateness-requires : goal.lateness-requires
lateness-requires c = search row

pub overflow_add-time : goal.overflow_add-time
overflow_add-time c = search row

pub shape_of-list : goal.shape_of-list
shape_of-list c = search row

pub returns : goal.returns
returns c = search row
