use Rattle.plan_text.proofs.Writes.{gaps}
use Rattle.plan_text.proofs.put_six.Goals as goal

pub put_blanks-requires : goal.put_blanks-requires
put_blanks-requires c = search gaps

pub overflow_add-at : goal.overflow_add-at
overflow_add-at c = search gaps

pub put_three-requires : goal.put_three-requires
put_three-requires c = search gaps

pub overflow_add-at-2 : goal.overflow_add-at-2
overflow_add-at-2 c = search gaps

pub overflow_add-at-3 : goal.overflow_add-at-3
overflow_add-at-3 c = search gaps

pub put_three-requires-2 : goal.put_three-requires-2
put_three-requires-2 c = search gaps

pub shape_of-t : goal.shape_of-t
shape_of-t c = search gaps

pub returns : goal.returns
returns c = search gaps
