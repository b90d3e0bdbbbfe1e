use Rattle.draft.proofs.Writing.{range-drafts}
use Rattle.draft.proofs.draft_range.Goals as goal

pub range_count-requires : goal.range_count-requires
range_count-requires c = search range-drafts

pub overflow_cast-range_count : goal.overflow_cast-range_count
overflow_cast-range_count c = search range-drafts

pub overflow_mul-range_count : goal.overflow_mul-range_count
overflow_mul-range_count c = search range-drafts

pub put_range-requires : goal.put_range-requires
put_range-requires c = search range-drafts

pub count_part-requires : goal.count_part-requires
count_part-requires c = search range-drafts

pub shape_of-ranges : goal.shape_of-ranges
shape_of-ranges c = search range-drafts

pub returns-clause-ranges_after : goal.returns-clause-ranges_after
returns-clause-ranges_after c = search range-drafts
