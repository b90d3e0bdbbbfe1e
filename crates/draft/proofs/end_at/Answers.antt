use Rattle.draft.proofs.Reading.{readers}
use Rattle.draft.proofs.end_at.Goals as goal

pub offset_bounds-ranges-at : goal.offset_bounds-ranges-at
offset_bounds-ranges-at c = search readers

pub bounds-ranges-at : goal.bounds-ranges-at
bounds-ranges-at c = search readers

pub overflow_add-at : goal.overflow_add-at
overflow_add-at c = search readers

pub offset_bounds-ranges-at-2 : goal.offset_bounds-ranges-at-2
offset_bounds-ranges-at-2 c = search readers

pub bounds-ranges-at-2 : goal.bounds-ranges-at-2
bounds-ranges-at-2 c = search readers

pub place_of-place-requires : goal.place_of-place-requires
place_of-place-requires c = search readers

pub overflow_add-at-2 : goal.overflow_add-at-2
overflow_add-at-2 c = search readers

pub offset_bounds-ranges-at-3 : goal.offset_bounds-ranges-at-3
offset_bounds-ranges-at-3 c = search readers

pub bounds-ranges-at-3 : goal.bounds-ranges-at-3
bounds-ranges-at-3 c = search readers

pub overflow_add-at-3 : goal.overflow_add-at-3
overflow_add-at-3 c = search readers

pub offset_bounds-ranges-at-4 : goal.offset_bounds-ranges-at-4
offset_bounds-ranges-at-4 c = search readers

pub bounds-ranges-at-4 : goal.bounds-ranges-at-4
bounds-ranges-at-4 c = search readers

pub detail_of-detail-requires : goal.detail_of-detail-requires
detail_of-detail-requires c = search readers

pub returns : goal.returns
returns c = search readers
