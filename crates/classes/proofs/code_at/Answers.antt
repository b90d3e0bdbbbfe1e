use Rattle.classes.proofs.Slots.{reading}
use Rattle.classes.proofs.code_at.Goals as goal

pub overflow_sub-at : goal.overflow_sub-at
overflow_sub-at c = search reading

pub overflow_cast-at : goal.overflow_cast-at
overflow_cast-at c = search reading

pub slice_bounds-code_on-count : goal.slice_bounds-code_on-count
slice_bounds-code_on-count c = search reading

pub slice_bounds-code_on-start : goal.slice_bounds-code_on-start
slice_bounds-code_on-start c = search reading

pub slice_bounds-code_on-end : goal.slice_bounds-code_on-end
slice_bounds-code_on-end c = search reading

pub code_on-requires : goal.code_on-requires
code_on-requires c = search reading

pub returns : goal.returns
returns c = search reading
