use Rattle.course.proofs.rows.Written.{one-call}
use Rattle.course.proofs.rows.put_call.Goals as goal

pub overflow_add-start : goal.overflow_add-start
overflow_add-start c = search one-call

pub call_of-call-requires : goal.call_of-call-requires
call_of-call-requires c = search one-call

pub put_row-requires : goal.put_row-requires
put_row-requires c = search one-call

pub shape_of-rows : goal.shape_of-rows
shape_of-rows c = search one-call

pub returns : goal.returns
returns c = search one-call

pub row_of-row-requires-clause-s_value : goal.row_of-row-requires-clause-s_value
row_of-row-requires-clause-s_value c = search one-call

pub row_of-row-requires-clause-stop_bound : goal.row_of-row-requires-clause-stop_bound
row_of-row-requires-clause-stop_bound c = search one-call
