use Rattle.course.proofs.rows.Written.{row}
use Rattle.course.proofs.rows.put_row.Goals as goal

pub overflow_add-at : goal.overflow_add-at
overflow_add-at c = search row

pub overflow_add-at-2 : goal.overflow_add-at-2
overflow_add-at-2 c = search row

pub shape_of-t : goal.shape_of-t
shape_of-t c = search row

pub returns : goal.returns
returns c = search row
