use Rattle.timetable.proofs.Rows.{calls}
use Rattle.timetable.proofs.call_at.Goals as goal

pub offset_bounds-w-at : goal.offset_bounds-w-at
offset_bounds-w-at c = search calls

pub bounds-w-at : goal.bounds-w-at
bounds-w-at c = search calls

pub overflow_add-result : goal.overflow_add-result
overflow_add-result c = search calls

pub offset_bounds-w-at-2 : goal.offset_bounds-w-at-2
offset_bounds-w-at-2 c = search calls

pub bounds-w-at-2 : goal.bounds-w-at-2
bounds-w-at-2 c = search calls

pub overflow_add-result-2 : goal.overflow_add-result-2
overflow_add-result-2 c = search calls

pub offset_bounds-w-at-3 : goal.offset_bounds-w-at-3
offset_bounds-w-at-3 c = search calls

pub bounds-w-at-3 : goal.bounds-w-at-3
bounds-w-at-3 c = search calls

pub overflow_add-result-3 : goal.overflow_add-result-3
overflow_add-result-3 c = search calls

pub offset_bounds-w-at-4 : goal.offset_bounds-w-at-4
offset_bounds-w-at-4 c = search calls

pub bounds-w-at-4 : goal.bounds-w-at-4
bounds-w-at-4 c = search calls

pub overflow_add-result-4 : goal.overflow_add-result-4
overflow_add-result-4 c = search calls

pub offset_bounds-w-at-5 : goal.offset_bounds-w-at-5
offset_bounds-w-at-5 c = search calls

pub bounds-w-at-5 : goal.bounds-w-at-5
bounds-w-at-5 c = search calls

pub overflow_add-result-5 : goal.overflow_add-result-5
overflow_add-result-5 c = search calls

pub offset_bounds-w-at-6 : goal.offset_bounds-w-at-6
offset_bounds-w-at-6 c = search calls

pub bounds-w-at-6 : goal.bounds-w-at-6
bounds-w-at-6 c = search calls

pub overflow_add-result-6 : goal.overflow_add-result-6
overflow_add-result-6 c = search calls

pub offset_bounds-w-at-7 : goal.offset_bounds-w-at-7
offset_bounds-w-at-7 c = search calls

pub bounds-w-at-7 : goal.bounds-w-at-7
bounds-w-at-7 c = search calls

pub returns : goal.returns
returns c = search calls
