use Rattle.timetable.proofs.Rows.{range-words}
use Rattle.timetable.proofs.legs_at.Goals as goal

pub overflow_add-result : goal.overflow_add-result
overflow_add-result c = search range-words

pub offset_bounds-w-at : goal.offset_bounds-w-at
offset_bounds-w-at c = search range-words

pub bounds-w-at : goal.bounds-w-at
bounds-w-at c = search range-words

pub overflow_add-result-2 : goal.overflow_add-result-2
overflow_add-result-2 c = search range-words

pub overflow_add-result-3 : goal.overflow_add-result-3
overflow_add-result-3 c = search range-words

pub offset_bounds-w-at-2 : goal.offset_bounds-w-at-2
offset_bounds-w-at-2 c = search range-words

pub bounds-w-at-2 : goal.bounds-w-at-2
bounds-w-at-2 c = search range-words

pub returns : goal.returns
returns c = search range-words
