use Rattle.calls_check.proofs.Entries.{one}
use Rattle.calls_check.proofs.entry_right.Goals as goal

pub bounds-w-4 : goal.bounds-w-4
bounds-w-4 c = search one

pub size-requires : goal.size-requires
size-requires c = search one

pub size-requires-2 : goal.size-requires-2
size-requires-2 c = search one

pub overflow_mul-from : goal.overflow_mul-from
overflow_mul-from c = search one

pub overflow_add-from : goal.overflow_add-from
overflow_add-from c = search one

pub overflow_add-from-2 : goal.overflow_add-from-2
overflow_add-from-2 c = search one

pub offset_bounds-x-from : goal.offset_bounds-x-from
offset_bounds-x-from c = search one

pub bounds-x-from : goal.bounds-x-from
bounds-x-from c = search one

pub returns-then-x-from : goal.returns-then-x-from
returns-then-x-from c = search one

pub overflow_add-from-3 : goal.overflow_add-from-3
overflow_add-from-3 c = search one

pub offset_bounds-x-from-2 : goal.offset_bounds-x-from-2
offset_bounds-x-from-2 c = search one

pub bounds-x-from-2 : goal.bounds-x-from-2
bounds-x-from-2 c = search one

pub returns-then-x-from-2 : goal.returns-then-x-from-2
returns-then-x-from-2 c = search one

pub overflow_add-result : goal.overflow_add-result
overflow_add-result c = search one

pub offset_bounds-x-from-3 : goal.offset_bounds-x-from-3
offset_bounds-x-from-3 c = search one

pub bounds-x-from-3 : goal.bounds-x-from-3
bounds-x-from-3 c = search one

pub returns : goal.returns
returns c = search one
