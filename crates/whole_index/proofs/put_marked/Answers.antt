use Rattle.whole_index.proofs.Answers.{marks}
use Rattle.whole_index.proofs.put_marked.Goals as goal

pub overflow_sub-last : goal.overflow_sub-last
overflow_sub-last c = search marks

pub slice_bounds-put_calls-count : goal.slice_bounds-put_calls-count
slice_bounds-put_calls-count c = search marks

pub slice_bounds-put_calls-start : goal.slice_bounds-put_calls-start
slice_bounds-put_calls-start c = search marks

pub slice_bounds-put_calls-end : goal.slice_bounds-put_calls-end
slice_bounds-put_calls-end c = search marks

pub put_calls-requires : goal.put_calls-requires
put_calls-requires c = search marks

pub mark-requires : goal.mark-requires
mark-requires c = search marks

pub offset_bounds-y-last : goal.offset_bounds-y-last
offset_bounds-y-last c = search marks

pub bounds-y-last : goal.bounds-y-last
bounds-y-last c = search marks

pub shape_of-y : goal.shape_of-y
shape_of-y c = search marks

pub returns : goal.returns
returns c = search marks
