use Rattle.indexing.proofs.Places.{nexts}
use Rattle.indexing.proofs.next_place.Goals as goal

pub bounds-w-0 : goal.bounds-w-0
bounds-w-0 c = search nexts

pub count-end-requires : goal.count-end-requires
count-end-requires c = search nexts

pub count-at-requires : goal.count-at-requires
count-at-requires c = search nexts

pub offset_bounds-w-at : goal.offset_bounds-w-at
offset_bounds-w-at c = search nexts

pub bounds-w-at : goal.bounds-w-at
bounds-w-at c = search nexts

pub count-requires : goal.count-requires
count-requires c = search nexts

pub overflow_add-at : goal.overflow_add-at
overflow_add-at c = search nexts

pub narrow-requires : goal.narrow-requires
narrow-requires c = search nexts

pub returns : goal.returns
returns c = search nexts
