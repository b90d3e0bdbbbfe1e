use Rattle.classes.proofs.Check.{checks}
use Rattle.classes.proofs.check_classes.Goals as goal

pub formed_lines-formed-requires : goal.formed_lines-formed-requires
formed_lines-formed-requires c = search checks

pub slice_bounds-first_repeat-count : goal.slice_bounds-first_repeat-count
slice_bounds-first_repeat-count c = search checks

pub slice_bounds-first_repeat-start : goal.slice_bounds-first_repeat-start
slice_bounds-first_repeat-start c = search checks

pub slice_bounds-first_repeat-end : goal.slice_bounds-first_repeat-end
slice_bounds-first_repeat-end c = search checks

pub first_repeat-repeat-requires : goal.first_repeat-repeat-requires
first_repeat-repeat-requires c = search checks

pub slice_bounds-other_tariff-count : goal.slice_bounds-other_tariff-count
slice_bounds-other_tariff-count c = search checks

pub slice_bounds-other_tariff-start : goal.slice_bounds-other_tariff-start
slice_bounds-other_tariff-start c = search checks

pub slice_bounds-other_tariff-end : goal.slice_bounds-other_tariff-end
slice_bounds-other_tariff-end c = search checks

pub other_tariff-other-requires : goal.other_tariff-other-requires
other_tariff-other-requires c = search checks

pub offence_at-requires : goal.offence_at-requires
offence_at-requires c = search checks

pub returns-then-other-stop : goal.returns-then-other-stop
returns-then-other-stop c = search checks

pub offence_at-requires-then-stop-end : goal.offence_at-requires-then-stop-end
offence_at-requires-then-stop-end c = search checks

pub returns-then-stop-end : goal.returns-then-stop-end
returns-then-stop-end c = search checks

pub returns-then-end-zugart : goal.returns-then-end-zugart
returns-then-end-zugart c = search checks

pub fill_index-requires : goal.fill_index-requires
fill_index-requires c = search checks

pub shape_of-index : goal.shape_of-index
shape_of-index c = search checks

pub returns : goal.returns
returns c = search checks
