use Rattle.walk.proofs.Laws.{walks}
use Rattle.walk.proofs.walk.Goals as goal

pub is_table-requires : goal.is_table-requires
is_table-requires c = search walks

pub returns-then-not-is_table : goal.returns-then-not-is_table
returns-then-not-is_table c = search walks

pub used_words-requires : goal.used_words-requires
used_words-requires c = search walks

pub slice_bounds-walk_by-count : goal.slice_bounds-walk_by-count
slice_bounds-walk_by-count c = search walks

pub slice_bounds-walk_by-start : goal.slice_bounds-walk_by-start
slice_bounds-walk_by-start c = search walks

pub slice_bounds-walk_by-end : goal.slice_bounds-walk_by-end
slice_bounds-walk_by-end c = search walks

pub walk_by-requires : goal.walk_by-requires
walk_by-requires c = search walks

pub shape_of-rows : goal.shape_of-rows
shape_of-rows c = search walks

pub returns : goal.returns
returns c = search walks
