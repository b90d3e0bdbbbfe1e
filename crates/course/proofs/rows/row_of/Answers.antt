use Rattle.course.proofs.rows.Written.{row}
use Rattle.course.proofs.rows.row_of.Goals as goal

pub stop_number-stop-requires : goal.stop_number-stop-requires
stop_number-stop-requires c = search row

pub interchange_at-times-requires : goal.interchange_at-times-requires
interchange_at-times-requires c = search row

pub overflow_add-call : goal.overflow_add-call
overflow_add-call c = search row

pub choose-requires : goal.choose-requires
choose-requires c = search row

pub overflow_add-call-2 : goal.overflow_add-call-2
overflow_add-call-2 c = search row

pub choose-requires-2 : goal.choose-requires-2
choose-requires-2 c = search row

pub row_flags-requires : goal.row_flags-requires
row_flags-requires c = search row

pub overflow_add-start : goal.overflow_add-start
overflow_add-start c = search row

pub leaving-requires : goal.leaving-requires
leaving-requires c = search row

pub returns : goal.returns
returns c = search row
