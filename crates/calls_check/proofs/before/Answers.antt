use Rattle.calls_check.proofs.Needs.{words}
use Rattle.calls_check.proofs.before.Goals as goal

pub bounds-w-4 : goal.bounds-w-4
bounds-w-4 c = search words

pub size-requires : goal.size-requires
size-requires c = search words

pub overflow_sub-e : goal.overflow_sub-e
overflow_sub-e c = search words

pub overflow_mul-e : goal.overflow_mul-e
overflow_mul-e c = search words

pub overflow_add-size : goal.overflow_add-size
overflow_add-size c = search words

pub offset_bounds-x-size : goal.offset_bounds-x-size
offset_bounds-x-size c = search words

pub bounds-x-size : goal.bounds-x-size
bounds-x-size c = search words

pub size-requires-2 : goal.size-requires-2
size-requires-2 c = search words

pub returns : goal.returns
returns c = search words
