use Rattle.boards.proofs.Needs.{section}
use Rattle.boards.proofs.stops_end.Goals as goal

pub bounds-w-3 : goal.bounds-w-3
bounds-w-3 c = search section

pub size-requires : goal.size-requires
size-requires c = search section

pub overflow_mul-result : goal.overflow_mul-result
overflow_mul-result c = search section

pub overflow_add-result : goal.overflow_add-result
overflow_add-result c = search section

pub bounds-w-4 : goal.bounds-w-4
bounds-w-4 c = search section

pub size-requires-2 : goal.size-requires-2
size-requires-2 c = search section

pub overflow_mul-result-2 : goal.overflow_mul-result-2
overflow_mul-result-2 c = search section

pub overflow_add-result-2 : goal.overflow_add-result-2
overflow_add-result-2 c = search section

pub returns : goal.returns
returns c = search section
