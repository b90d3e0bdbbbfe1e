use Rattle.indexing.proofs.Chains.{chains}
use Rattle.indexing.proofs.put_chains.Goals as goal

pub count-requires : goal.count-requires
count-requires c = search chains

pub overflow_mul-end : goal.overflow_mul-end
overflow_mul-end c = search chains

pub overflow_add-end : goal.overflow_add-end
overflow_add-end c = search chains

pub count-requires-2 : goal.count-requires-2
count-requires-2 c = search chains

pub overflow_mul-to : goal.overflow_mul-to
overflow_mul-to c = search chains

pub overflow_add-to : goal.overflow_add-to
overflow_add-to c = search chains

pub offset_bounds-x-from : goal.offset_bounds-x-from
offset_bounds-x-from c = search chains

pub slice_bounds-fill-count : goal.slice_bounds-fill-count
slice_bounds-fill-count c = search chains

pub slice_bounds-fill-start : goal.slice_bounds-fill-start
slice_bounds-fill-start c = search chains

pub slice_bounds-fill-end : goal.slice_bounds-fill-end
slice_bounds-fill-end c = search chains

pub shape_of-x : goal.shape_of-x
shape_of-x c = search chains

pub returns : goal.returns
returns c = search chains
