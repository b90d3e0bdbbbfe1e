use Rattle.plan_text.proofs.Writes.{gaps}
use Rattle.plan_text.proofs.Writes.{opening-written}
use Rattle.plan_text.proofs.put_opening.Goals as goal

pub put_mark-requires : goal.put_mark-requires
put_mark-requires c = search gaps

pub overflow_add-at : goal.overflow_add-at
overflow_add-at c = search gaps

pub put_decimal-requires : goal.put_decimal-requires
put_decimal-requires c = search gaps

pub overflow_add-at-2 : goal.overflow_add-at-2
overflow_add-at-2 c = search gaps

pub put_six-requires : goal.put_six-requires
put_six-requires c = search gaps

pub overflow_add-at-3 : goal.overflow_add-at-3
overflow_add-at-3 c = search gaps

pub put_number-requires : goal.put_number-requires
put_number-requires c = search gaps

pub overflow_add-at-4 : goal.overflow_add-at-4
overflow_add-at-4 c = search gaps

pub put_number-requires-2 : goal.put_number-requires-2
put_number-requires-2 c = search gaps

pub overflow_add-at-5 : goal.overflow_add-at-5
overflow_add-at-5 c = search gaps

pub put_close-requires : goal.put_close-requires
put_close-requires c = search gaps

pub shape_of-t : goal.shape_of-t
shape_of-t c = search gaps

pub returns : goal.returns
returns c =
    opening-written c.args.t.now c.put_mark.new.t c.put_decimal.new.t c.put_six.new.t c.put_number.new.t c.put_number-2.new.t c.args.at c.requires c.put_close.new.t c.args.o c.put_mark.ensures c.put_decimal.ensures c.put_six.ensures c.put_number.ensures c.put_number-2.ensures c.put_close.ensures
