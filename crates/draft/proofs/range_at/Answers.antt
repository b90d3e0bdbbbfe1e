use Rattle.draft.proofs.Reading.{readers}
use Rattle.draft.proofs.range_at.Goals as goal

pub overflow_add-at : goal.overflow_add-at
overflow_add-at c = search readers

pub offset_bounds-ranges-at : goal.offset_bounds-ranges-at
offset_bounds-ranges-at c = search readers

pub bounds-ranges-at : goal.bounds-ranges-at
bounds-ranges-at c = search readers

pub part_of-part-requires : goal.part_of-part-requires
part_of-part-requires c = search readers

pub overflow_add-name : goal.overflow_add-name
overflow_add-name c = search readers

pub offset_bounds-ranges-at-2 : goal.offset_bounds-ranges-at-2
offset_bounds-ranges-at-2 c = search readers

pub bounds-ranges-at-2 : goal.bounds-ranges-at-2
bounds-ranges-at-2 c = search readers

pub overflow_add-field : goal.overflow_add-field
overflow_add-field c = search readers

pub offset_bounds-ranges-at-3 : goal.offset_bounds-ranges-at-3
offset_bounds-ranges-at-3 c = search readers

pub bounds-ranges-at-3 : goal.bounds-ranges-at-3
bounds-ranges-at-3 c = search readers

pub overflow_add-at-2 : goal.overflow_add-at-2
overflow_add-at-2 c = search readers

pub end_at-from-requires : goal.end_at-from-requires
end_at-from-requires c = search readers

pub overflow_add-at-3 : goal.overflow_add-at-3
overflow_add-at-3 c = search readers

pub end_at-to-requires : goal.end_at-to-requires
end_at-to-requires c = search readers

pub returns : goal.returns
returns c = search readers
