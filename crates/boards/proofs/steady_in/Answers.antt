use Rattle.boards.proofs.Needs.{marks}
use Rattle.boards.proofs.steady_in.Goals as goal

pub size-requires : goal.size-requires
size-requires c = search marks

pub returns-then-y-size : goal.returns-then-y-size
returns-then-y-size c = search marks

pub overflow_sub-result : goal.overflow_sub-result
overflow_sub-result c = search marks

pub offset_bounds-y-y : goal.offset_bounds-y-y
offset_bounds-y-y c = search marks

pub bounds-y-y : goal.bounds-y-y
bounds-y-y c = search marks

pub returns : goal.returns
returns c = search marks
