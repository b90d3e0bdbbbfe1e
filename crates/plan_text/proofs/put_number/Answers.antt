use Rattle.plan_text.proofs.Writes.{gaps}
use Rattle.plan_text.proofs.put_number.Goals as goal

pub put_blanks-requires : goal.put_blanks-requires
put_blanks-requires c = search gaps

pub overflow_add-at : goal.overflow_add-at
overflow_add-at c = search gaps

pub put_decimal-requires : goal.put_decimal-requires
put_decimal-requires c = search gaps

pub shape_of-t : goal.shape_of-t
shape_of-t c = search gaps

pub returns : goal.returns
returns c = search gaps
