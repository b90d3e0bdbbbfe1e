use Rattle.plan_text.proofs.Writes.{gaps}
use Rattle.plan_text.proofs.Writes.{category-written}
use Rattle.plan_text.proofs.put_category.Goals as goal

pub put_mark-requires : goal.put_mark-requires
put_mark-requires c = search gaps

pub overflow_add-at : goal.overflow_add-at
overflow_add-at c = search gaps

pub put_three-requires : goal.put_three-requires
put_three-requires c = search gaps

pub overflow_add-at-2 : goal.overflow_add-at-2
overflow_add-at-2 c = search gaps

pub put_index-requires : goal.put_index-requires
put_index-requires c = search gaps

pub overflow_add-at-3 : goal.overflow_add-at-3
overflow_add-at-3 c = search gaps

pub put_index-requires-2 : goal.put_index-requires-2
put_index-requires-2 c = search gaps

pub overflow_add-at-4 : goal.overflow_add-at-4
overflow_add-at-4 c = search gaps

pub put_close-requires : goal.put_close-requires
put_close-requires c = search gaps

pub shape_of-t : goal.shape_of-t
shape_of-t c = search gaps

pub returns : goal.returns
returns c =
    category-written c.args.t.now c.put_mark.new.t c.put_three.new.t c.put_index.new.t c.put_index-2.new.t c.put_close.new.t c.args.at c.requires c.args.name c.args.from c.args.to c.put_mark.ensures c.put_three.ensures c.put_index.ensures c.put_index-2.ensures c.put_close.ensures
