use Rattle.base.proofs.Laws.{tests}
use Rattle.load.proofs.load_mapped.Goals as goal

pub slice_bounds-load_drafting-end : goal.slice_bounds-load_drafting-end
slice_bounds-load_drafting-end c = search tests

pub slice_bounds-load_drafting-end-2 : goal.slice_bounds-load_drafting-end-2
slice_bounds-load_drafting-end-2 c = search tests

pub shape_of-table : goal.shape_of-table
shape_of-table c = search tests

pub shape_of-m : goal.shape_of-m
shape_of-m c = search tests
