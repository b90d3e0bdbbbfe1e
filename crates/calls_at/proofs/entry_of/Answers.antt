use Rattle.calls_at.proofs.Needs.{entries}
use Rattle.calls_at.proofs.entry_of.Goals as goal

pub bounds-w-4 : goal.bounds-w-4
bounds-w-4 c = search entries

pub size-requires : goal.size-requires
size-requires c = search entries

pub size-requires-2 : goal.size-requires-2
size-requires-2 c = search entries

pub overflow_sub-from : goal.overflow_sub-from
overflow_sub-from c = search entries

pub overflow_mul-from : goal.overflow_mul-from
overflow_mul-from c = search entries

pub overflow_add-from : goal.overflow_add-from
overflow_add-from c = search entries

pub offset_bounds-x-from : goal.offset_bounds-x-from
offset_bounds-x-from c = search entries

pub bounds-x-from : goal.bounds-x-from
bounds-x-from c = search entries

pub overflow_add-result : goal.overflow_add-result
overflow_add-result c = search entries

pub offset_bounds-x-from-2 : goal.offset_bounds-x-from-2
offset_bounds-x-from-2 c = search entries

pub bounds-x-from-2 : goal.bounds-x-from-2
bounds-x-from-2 c = search entries

pub overflow_add-result-2 : goal.overflow_add-result-2
overflow_add-result-2 c = search entries

pub offset_bounds-x-from-3 : goal.offset_bounds-x-from-3
offset_bounds-x-from-3 c = search entries

pub bounds-x-from-3 : goal.bounds-x-from-3
bounds-x-from-3 c = search entries

pub overflow_add-result-3 : goal.overflow_add-result-3
overflow_add-result-3 c = search entries

pub offset_bounds-x-from-4 : goal.offset_bounds-x-from-4
offset_bounds-x-from-4 c = search entries

pub bounds-x-from-4 : goal.bounds-x-from-4
bounds-x-from-4 c = search entries

pub returns : goal.returns
returns c = search entries
