use Rattle.course.proofs.rows.Record.{held}
use Rattle.course.proofs.rows.call_of.Goals as goal

pub size-requires : goal.size-requires
size-requires c = search held

pub overflow_mul-size : goal.overflow_mul-size
overflow_mul-size c = search held

pub overflow_add-size : goal.overflow_add-size
overflow_add-size c = search held

pub call_at-requires : goal.call_at-requires
call_at-requires c = search held

pub returns : goal.returns
returns c = search held
