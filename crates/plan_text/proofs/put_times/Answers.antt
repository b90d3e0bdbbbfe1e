use Rattle.plan_text.proofs.Writes.{gaps}
use Rattle.plan_text.proofs.put_times.Goals as goal

pub odd-requires : goal.odd-requires
odd-requires c = search gaps

pub odd-requires-2 : goal.odd-requires-2
odd-requires-2 c = search gaps

pub put_time-requires : goal.put_time-requires
put_time-requires c = search gaps

pub overflow_add-at : goal.overflow_add-at
overflow_add-at c = search gaps

pub odd-requires-3 : goal.odd-requires-3
odd-requires-3 c = search gaps

pub odd-requires-4 : goal.odd-requires-4
odd-requires-4 c = search gaps

pub put_time-requires-2 : goal.put_time-requires-2
put_time-requires-2 c = search gaps

pub shape_of-t : goal.shape_of-t
shape_of-t c = search gaps

pub returns : goal.returns
returns c = search gaps
