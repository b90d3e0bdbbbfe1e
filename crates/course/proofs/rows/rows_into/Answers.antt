use native.Mathlib.Omega.{arith}
use Rattle.course.proofs.rows.Written.{rows}
use Rattle.course.proofs.rows.rows_into.Goals as goal

pub loop-k-init : goal.loop-k-init
loop-k-init c = search rows

pub overflow_add-at : goal.overflow_add-at
overflow_add-at c = search rows

pub overflow_add-k : goal.overflow_add-k
overflow_add-k c = search rows

pub loop-k-smaller : goal.loop-k-smaller
loop-k-smaller c = search rows

pub loop-k-preserved : goal.loop-k-preserved
loop-k-preserved c = (omega arith, omega arith, search rows, search rows)

pub shape_of-rows : goal.shape_of-rows
shape_of-rows c = search rows

pub returns : goal.returns
returns c = search rows
