use Rattle.service_lines.proofs.Services.{lines}
use Rattle.service_lines.proofs.lines_of.Goals as goal

pub bounds-s-6 : goal.bounds-s-6
bounds-s-6 c = search lines

pub size-requires : goal.size-requires
size-requires c = search lines

pub overflow_add-result : goal.overflow_add-result
overflow_add-result c = search lines

pub bounds-s-7 : goal.bounds-s-7
bounds-s-7 c = search lines

pub size-requires-2 : goal.size-requires-2
size-requires-2 c = search lines

pub overflow_add-result-2 : goal.overflow_add-result-2
overflow_add-result-2 c = search lines

pub bounds-s-8 : goal.bounds-s-8
bounds-s-8 c = search lines

pub size-requires-3 : goal.size-requires-3
size-requires-3 c = search lines

pub overflow_add-result-3 : goal.overflow_add-result-3
overflow_add-result-3 c = search lines

pub bounds-s-9 : goal.bounds-s-9
bounds-s-9 c = search lines

pub size-requires-4 : goal.size-requires-4
size-requires-4 c = search lines

pub overflow_add-result-4 : goal.overflow_add-result-4
overflow_add-result-4 c = search lines

pub returns : goal.returns
returns c = search lines
