use Rattle.boards.proofs.Needs.{section}
use Rattle.boards.proofs.stops_from.Goals as goal

pub bounds-w-3 : goal.bounds-w-3
bounds-w-3 c = search section

pub size-requires : goal.size-requires
size-requires c = search section

pub overflow_mul-result : goal.overflow_mul-result
overflow_mul-result c = search section

pub returns : goal.returns
returns c = search section
