use Rattle.calls.proofs.Calls.{heads}
use Rattle.calls.proofs.stop_at.Goals as goal

pub size-requires : goal.size-requires
size-requires c = search heads

pub overflow_add-result : goal.overflow_add-result
overflow_add-result c = search heads

pub size-requires-2 : goal.size-requires-2
size-requires-2 c = search heads

pub overflow_mul-result : goal.overflow_mul-result
overflow_mul-result c = search heads

pub overflow_add-result-2 : goal.overflow_add-result-2
overflow_add-result-2 c = search heads

pub offset_bounds-w-size : goal.offset_bounds-w-size
offset_bounds-w-size c = search heads

pub bounds-w-size : goal.bounds-w-size
bounds-w-size c = search heads

pub returns : goal.returns
returns c = search heads
