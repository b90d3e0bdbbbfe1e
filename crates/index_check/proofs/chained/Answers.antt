use Rattle.index_check.proofs.Sections.{chains}
use Rattle.index_check.proofs.chained.Goals as goal

pub count-requires : goal.count-requires
count-requires c = search chains

pub overflow_mul-end : goal.overflow_mul-end
overflow_mul-end c = search chains

pub overflow_add-end : goal.overflow_add-end
overflow_add-end c = search chains

pub count-requires-2 : goal.count-requires-2
count-requires-2 c = search chains

pub overflow_mul-to : goal.overflow_mul-to
overflow_mul-to c = search chains

pub overflow_add-to : goal.overflow_add-to
overflow_add-to c = search chains

pub offset_bounds-x-from : goal.offset_bounds-x-from
offset_bounds-x-from c = search chains

pub slice_bounds-is_chained-count : goal.slice_bounds-is_chained-count
slice_bounds-is_chained-count c = search chains

pub slice_bounds-is_chained-start : goal.slice_bounds-is_chained-start
slice_bounds-is_chained-start c = search chains

pub slice_bounds-is_chained-end : goal.slice_bounds-is_chained-end
slice_bounds-is_chained-end c = search chains

pub is_chained-requires : goal.is_chained-requires
is_chained-requires c = search chains

pub returns : goal.returns
returns c = search chains
