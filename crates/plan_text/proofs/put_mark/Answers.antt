use native.Mathlib.Omega.{arith}
use lib.ListN.{length-set}
use Rattle.plan_text.proofs.Writes.{gaps}
use Rattle.plan_text.proofs.put_mark.Goals as goal

pub bounds-t-at : goal.bounds-t-at
bounds-t-at c = search gaps

pub overflow_add-t : goal.overflow_add-t
overflow_add-t c = search gaps

pub bounds-t-at-2 : goal.bounds-t-at-2
bounds-t-at-2 c = simp length-set (omega arith)

pub overflow_add-t-2 : goal.overflow_add-t-2
overflow_add-t-2 c = search gaps

pub bounds-t-at-3 : goal.bounds-t-at-3
bounds-t-at-3 c = simp length-set (omega arith)

pub shape_of-t : goal.shape_of-t
shape_of-t c = search gaps

pub returns : goal.returns
returns c = search gaps
