use Rattle.draft.proofs.Writing.{written}
use Rattle.draft.proofs.put_range.Goals as goal

pub part_number-number-requires : goal.part_number-number-requires
part_number-number-requires c = search written

pub overflow_add-at : goal.overflow_add-at
overflow_add-at c = search written

pub put_end-requires : goal.put_end-requires
put_end-requires c = search written

pub overflow_add-at-2 : goal.overflow_add-at-2
overflow_add-at-2 c = search written

pub put_end-requires-2 : goal.put_end-requires-2
put_end-requires-2 c = search written

pub shape_of-ranges : goal.shape_of-ranges
shape_of-ranges c = search written

pub returns : goal.returns
returns c = search written
