use Rattle.calls.proofs.Calls.{sizing}
use Rattle.calls.proofs.call_index_size.Goals as goal

pub bounds-w-4 : goal.bounds-w-4
bounds-w-4 c = search sizing

pub size-requires : goal.size-requires
size-requires c = search sizing

pub count_calls-requires : goal.count_calls-requires
count_calls-requires c = search sizing

pub overflow_mul-result : goal.overflow_mul-result
overflow_mul-result c = search sizing

pub overflow_add-result : goal.overflow_add-result
overflow_add-result c = search sizing

pub returns : goal.returns
returns c = search sizing
