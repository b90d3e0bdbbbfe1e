use Rattle.reading.proofs.Passing.{passing}
use Rattle.reading.proofs.Reaching.{reaching}
use Rattle.reading.proofs.read_again.Goals as goal

pub line_from-cut-requires : goal.line_from-cut-requires
line_from-cut-requires c = search passing

pub slice_bounds-told_first-count : goal.slice_bounds-told_first-count
slice_bounds-told_first-count c = search passing

pub slice_bounds-told_first-start : goal.slice_bounds-told_first-start
slice_bounds-told_first-start c = search passing

pub slice_bounds-told_first-end : goal.slice_bounds-told_first-end
slice_bounds-told_first-end c = search passing

pub told_first-requires : goal.told_first-requires
told_first-requires c = search passing

pub opening_of-opening-requires : goal.opening_of-opening-requires
opening_of-opening-requires c = search passing

pub no_counts-counts-requires : goal.no_counts-counts-requires
no_counts-counts-requires c = search passing

pub loop-end-init : goal.loop-end-init
loop-end-init c = (search passing, search passing, search passing, search passing)

pub slice_bounds-kind_of-count : goal.slice_bounds-kind_of-count
slice_bounds-kind_of-count c = search passing

pub slice_bounds-kind_of-start : goal.slice_bounds-kind_of-start
slice_bounds-kind_of-start c = search passing

pub slice_bounds-kind_of-end : goal.slice_bounds-kind_of-end
slice_bounds-kind_of-end c = search passing

pub kind_of-kind-requires : goal.kind_of-kind-requires
kind_of-kind-requires c = search passing

pub is_opening-requires : goal.is_opening-requires
is_opening-requires c = search passing

pub shape_of-calls-then-is_opening : goal.shape_of-calls-then-is_opening
shape_of-calls-then-is_opening c = search passing

pub shape_of-ranges-then-is_opening : goal.shape_of-ranges-then-is_opening
shape_of-ranges-then-is_opening c = search passing

pub returns-then-is_opening : goal.returns-then-is_opening
returns-then-is_opening c = search passing

pub slice_bounds-draft_again-count : goal.slice_bounds-draft_again-count
slice_bounds-draft_again-count c = search passing

pub slice_bounds-draft_again-start : goal.slice_bounds-draft_again-start
slice_bounds-draft_again-start c = search passing

pub slice_bounds-draft_again-end : goal.slice_bounds-draft_again-end
slice_bounds-draft_again-end c = search passing

pub loop-end-smaller : goal.loop-end-smaller
loop-end-smaller c = search passing

pub loop-end-preserved : goal.loop-end-preserved
loop-end-preserved c = (search passing, search passing, search passing, search passing)

pub shape_of-calls : goal.shape_of-calls
shape_of-calls c = search passing

pub shape_of-ranges : goal.shape_of-ranges
shape_of-ranges c = search passing

pub returns : goal.returns
returns c = search passing

pub draft_again-counts-requires-clause-kind_value : goal.draft_again-counts-requires-clause-kind_value
draft_again-counts-requires-clause-kind_value c = search passing

pub draft_again-counts-requires-clause-within : goal.draft_again-counts-requires-clause-within
draft_again-counts-requires-clause-within c = search passing

pub cut_again-after-requires-clause-reaching : goal.cut_again-after-requires-clause-reaching
cut_again-after-requires-clause-reaching c = search reaching
