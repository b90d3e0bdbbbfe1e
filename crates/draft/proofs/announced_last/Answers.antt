use Rattle.draft.proofs.Writing.{holds}
use Rattle.draft.proofs.announced_last.Goals as goal

pub overflow_sub-at : goal.overflow_sub-at
overflow_sub-at c = search holds

pub overflow_cast-at : goal.overflow_cast-at
overflow_cast-at c = search holds

pub overflow_mul-at : goal.overflow_mul-at
overflow_mul-at c = search holds

pub overflow_add-result : goal.overflow_add-result
overflow_add-result c = search holds

pub offset_bounds-calls-at : goal.offset_bounds-calls-at
offset_bounds-calls-at c = search holds

pub bounds-calls-at : goal.bounds-calls-at
bounds-calls-at c = search holds

pub overflow_add-result-2 : goal.overflow_add-result-2
overflow_add-result-2 c = search holds

pub offset_bounds-calls-at-2 : goal.offset_bounds-calls-at-2
offset_bounds-calls-at-2 c = search holds

pub bounds-calls-at-2 : goal.bounds-calls-at-2
bounds-calls-at-2 c = search holds

pub overflow_add-result-3 : goal.overflow_add-result-3
overflow_add-result-3 c = search holds

pub offset_bounds-calls-at-3 : goal.offset_bounds-calls-at-3
offset_bounds-calls-at-3 c = search holds

pub bounds-calls-at-3 : goal.bounds-calls-at-3
bounds-calls-at-3 c = search holds

pub returns : goal.returns
returns c = search holds
