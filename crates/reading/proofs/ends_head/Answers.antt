use Rattle.reading.proofs.Heads.{heading}
use Rattle.reading.proofs.ends_head.Goals as goal

pub slice_bounds-kind_of-count : goal.slice_bounds-kind_of-count
slice_bounds-kind_of-count c = search heading

pub slice_bounds-kind_of-start : goal.slice_bounds-kind_of-start
slice_bounds-kind_of-start c = search heading

pub slice_bounds-kind_of-end : goal.slice_bounds-kind_of-end
slice_bounds-kind_of-end c = search heading

pub kind_of-requires : goal.kind_of-requires
kind_of-requires c = search heading

pub is_opening-requires : goal.is_opening-requires
is_opening-requires c = search heading

pub returns-then-is_opening : goal.returns-then-is_opening
returns-then-is_opening c = search heading

pub slice_bounds-skips-count : goal.slice_bounds-skips-count
slice_bounds-skips-count c = search heading

pub slice_bounds-skips-start : goal.slice_bounds-skips-start
slice_bounds-skips-start c = search heading

pub slice_bounds-skips-end : goal.slice_bounds-skips-end
slice_bounds-skips-end c = search heading

pub skips-requires : goal.skips-requires
skips-requires c = search heading

pub returns : goal.returns
returns c = search heading
