use Rattle.reading.proofs.Heads.{next}
use Rattle.reading.proofs.next_line.Goals as goal

pub returns-then-fplan-at : goal.returns-then-fplan-at
returns-then-fplan-at c = search next

pub line_from-cut-requires : goal.line_from-cut-requires
line_from-cut-requires c = search next

pub slice_bounds-kind_of-count : goal.slice_bounds-kind_of-count
slice_bounds-kind_of-count c = search next

pub slice_bounds-kind_of-start : goal.slice_bounds-kind_of-start
slice_bounds-kind_of-start c = search next

pub slice_bounds-kind_of-end : goal.slice_bounds-kind_of-end
slice_bounds-kind_of-end c = search next

pub kind_of-kind-requires : goal.kind_of-kind-requires
kind_of-kind-requires c = search next

pub is_opening-requires : goal.is_opening-requires
is_opening-requires c = search next

pub returns-then-is_opening : goal.returns-then-is_opening
returns-then-is_opening c = search next

pub slice_bounds-told_of-count : goal.slice_bounds-told_of-count
slice_bounds-told_of-count c = search next

pub slice_bounds-told_of-start : goal.slice_bounds-told_of-start
slice_bounds-told_of-start c = search next

pub slice_bounds-told_of-end : goal.slice_bounds-told_of-end
slice_bounds-told_of-end c = search next

pub told_of-requires : goal.told_of-requires
told_of-requires c = search next

pub returns : goal.returns
returns c = search next
