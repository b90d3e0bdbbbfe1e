use Rattle.index_check.proofs.Whole.{marks}
use Rattle.index_check.proofs.are_marked.Goals as goal

pub returns-then-y-eq0 : goal.returns-then-y-eq0
returns-then-y-eq0 c = search marks

pub overflow_sub-last : goal.overflow_sub-last
overflow_sub-last c = search marks

pub offset_bounds-y-last : goal.offset_bounds-y-last
offset_bounds-y-last c = search marks

pub bounds-y-last : goal.bounds-y-last
bounds-y-last c = search marks

pub mark-requires : goal.mark-requires
mark-requires c = search marks

pub returns-then-y-last : goal.returns-then-y-last
returns-then-y-last c = search marks

pub slice_bounds-is_call_index-count : goal.slice_bounds-is_call_index-count
slice_bounds-is_call_index-count c = search marks

pub slice_bounds-is_call_index-start : goal.slice_bounds-is_call_index-start
slice_bounds-is_call_index-start c = search marks

pub slice_bounds-is_call_index-end : goal.slice_bounds-is_call_index-end
slice_bounds-is_call_index-end c = search marks

pub is_call_index-requires : goal.is_call_index-requires
is_call_index-requires c = search marks

pub returns : goal.returns
returns c = search marks
