use Rattle.calls.proofs.Entered.{enters}
use Rattle.calls.proofs.put_call.Goals as goal

pub stop_at-requires : goal.stop_at-requires
stop_at-requires c = search enters

pub size-b-requires : goal.size-b-requires
size-b-requires c = search enters

pub size-requires : goal.size-requires
size-requires c = search enters

pub overflow_mul-from : goal.overflow_mul-from
overflow_mul-from c = search enters

pub overflow_add-from : goal.overflow_add-from
overflow_add-from c = search enters

pub offset_bounds-x-b : goal.offset_bounds-x-b
offset_bounds-x-b c = search enters

pub bounds-x-b : goal.bounds-x-b
bounds-x-b c = search enters

pub overflow_add-x : goal.overflow_add-x
overflow_add-x c = search enters

pub offset_bounds-x-b-2 : goal.offset_bounds-x-b-2
offset_bounds-x-b-2 c = search enters

pub bounds-x-b-2 : goal.bounds-x-b-2
bounds-x-b-2 c = search enters

pub shape_of-x : goal.shape_of-x
shape_of-x c = search enters

pub returns : goal.returns
returns c = search enters
