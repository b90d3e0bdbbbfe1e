use Rattle.plan_text.proofs.Writes.{gaps}
use Rattle.plan_text.proofs.put_time.Goals as goal

pub put_blanks-requires : goal.put_blanks-requires
put_blanks-requires c = search gaps

pub overflow_add-at : goal.overflow_add-at
overflow_add-at c = search gaps

pub put_clock-requires : goal.put_clock-requires
put_clock-requires c = search gaps

pub shape_of-t : goal.shape_of-t
shape_of-t c = search gaps

pub returns : goal.returns
returns c = search gaps
