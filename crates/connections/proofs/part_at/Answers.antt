use Rattle.connections.proofs.Words.{parts}
use Rattle.connections.proofs.part_at.Goals as goal

pub offset_bounds-parts-at : goal.offset_bounds-parts-at
offset_bounds-parts-at c = search parts

pub bounds-parts-at : goal.bounds-parts-at
bounds-parts-at c = search parts

pub overflow_add-result : goal.overflow_add-result
overflow_add-result c = search parts

pub offset_bounds-parts-at-2 : goal.offset_bounds-parts-at-2
offset_bounds-parts-at-2 c = search parts

pub bounds-parts-at-2 : goal.bounds-parts-at-2
bounds-parts-at-2 c = search parts

pub overflow_add-result-2 : goal.overflow_add-result-2
overflow_add-result-2 c = search parts

pub offset_bounds-parts-at-3 : goal.offset_bounds-parts-at-3
offset_bounds-parts-at-3 c = search parts

pub bounds-parts-at-3 : goal.bounds-parts-at-3
bounds-parts-at-3 c = search parts

pub overflow_add-result-3 : goal.overflow_add-result-3
overflow_add-result-3 c = search parts

pub offset_bounds-parts-at-4 : goal.offset_bounds-parts-at-4
offset_bounds-parts-at-4 c = search parts

pub bounds-parts-at-4 : goal.bounds-parts-at-4
bounds-parts-at-4 c = search parts

pub overflow_add-result-4 : goal.overflow_add-result-4
overflow_add-result-4 c = search parts

pub offset_bounds-parts-at-5 : goal.offset_bounds-parts-at-5
offset_bounds-parts-at-5 c = search parts

pub bounds-parts-at-5 : goal.bounds-parts-at-5
bounds-parts-at-5 c = search parts

pub overflow_add-result-5 : goal.overflow_add-result-5
overflow_add-result-5 c = search parts

pub offset_bounds-parts-at-6 : goal.offset_bounds-parts-at-6
offset_bounds-parts-at-6 c = search parts

pub bounds-parts-at-6 : goal.bounds-parts-at-6
bounds-parts-at-6 c = search parts

pub overflow_add-result-6 : goal.overflow_add-result-6
overflow_add-result-6 c = search parts

pub offset_bounds-parts-at-7 : goal.offset_bounds-parts-at-7
offset_bounds-parts-at-7 c = search parts

pub bounds-parts-at-7 : goal.bounds-parts-at-7
bounds-parts-at-7 c = search parts

pub returns : goal.returns
returns c = search parts
