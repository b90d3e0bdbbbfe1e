use Rattle.calls_check.proofs.Needs.{words}
use Rattle.calls_check.proofs.stop_of.Goals as goal

pub bounds-w-4 : goal.bounds-w-4
bounds-w-4 c = search words

pub size-requires : goal.size-requires
size-requires c = search words

pub overflow_sub-from : goal.overflow_sub-from
overflow_sub-from c = search words

pub overflow_mul-from : goal.overflow_mul-from
overflow_mul-from c = search words

pub overflow_add-from : goal.overflow_add-from
overflow_add-from c = search words

pub overflow_add-from-2 : goal.overflow_add-from-2
overflow_add-from-2 c = search words

pub offset_bounds-x-from : goal.offset_bounds-x-from
offset_bounds-x-from c = search words

pub bounds-x-from : goal.bounds-x-from
bounds-x-from c = search words

pub overflow_add-from-3 : goal.overflow_add-from-3
overflow_add-from-3 c = search words

pub offset_bounds-x-from-2 : goal.offset_bounds-x-from-2
offset_bounds-x-from-2 c = search words

pub bounds-x-from-2 : goal.bounds-x-from-2
bounds-x-from-2 c = search words

pub stop_at-requires : goal.stop_at-requires
stop_at-requires c = search words

pub size-requires-2 : goal.size-requires-2
size-requires-2 c = search words

pub returns : goal.returns
returns c = search words
