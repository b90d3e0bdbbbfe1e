use Rattle.course.proofs.rows.Written.{row}
use Rattle.course.proofs.rows.row_flags.Goals as goal

pub overflow_mul-flags : goal.overflow_mul-flags
overflow_mul-flags c = search row

pub overflow_add-flags : goal.overflow_add-flags
overflow_add-flags c = search row

pub choose-requires : goal.choose-requires
choose-requires c = search row

pub overflow_mul-flags-2 : goal.overflow_mul-flags-2
overflow_mul-flags-2 c = search row

pub overflow_mul-flags-3 : goal.overflow_mul-flags-3
overflow_mul-flags-3 c = search row

pub overflow_add-flags-2 : goal.overflow_add-flags-2
overflow_add-flags-2 c = search row

pub choose-requires-2 : goal.choose-requires-2
choose-requires-2 c = search row

pub overflow_add-result : goal.overflow_add-result
overflow_add-result c = search row

pub returns : goal.returns
returns c = search row
