use Rattle.cover.proofs.Turn.{turns}
use Rattle.cover.proofs.begins_at.Goals as goal

pub overflow_sub-ends : goal.overflow_sub-ends
overflow_sub-ends c = search turns

pub overflow_add-ends : goal.overflow_add-ends
overflow_add-ends c = search turns

pub offset_bounds-w-ends : goal.offset_bounds-w-ends
offset_bounds-w-ends c = search turns

pub bounds-w-ends : goal.bounds-w-ends
bounds-w-ends c = search turns

pub returns-then-w-ends : goal.returns-then-w-ends
returns-then-w-ends c = search turns

pub overflow_add-result : goal.overflow_add-result
overflow_add-result c = search turns

pub offset_bounds-w-ends-2 : goal.offset_bounds-w-ends-2
offset_bounds-w-ends-2 c = search turns

pub bounds-w-ends-2 : goal.bounds-w-ends-2
bounds-w-ends-2 c = search turns

pub returns : goal.returns
returns c = search turns
