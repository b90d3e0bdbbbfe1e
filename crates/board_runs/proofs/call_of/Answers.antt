use Rattle.board_runs.proofs.Needs.{places}
use Rattle.board_runs.proofs.call_of.Goals as goal

pub size-requires : goal.size-requires
size-requires c = search places

pub overflow_mul-size : goal.overflow_mul-size
overflow_mul-size c = search places

pub overflow_add-size : goal.overflow_add-size
overflow_add-size c = search places

pub call_at-requires : goal.call_at-requires
call_at-requires c = search places

pub returns : goal.returns
returns c = search places
