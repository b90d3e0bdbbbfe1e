use Rattle.draft.proofs.Reading.{readers}
use Rattle.draft.proofs.call_line.Goals as goal

pub overflow_add-result : goal.overflow_add-result
overflow_add-result c = search readers

pub offset_bounds-calls-at : goal.offset_bounds-calls-at
offset_bounds-calls-at c = search readers

pub bounds-calls-at : goal.bounds-calls-at
bounds-calls-at c = search readers

pub returns : goal.returns
returns c = search readers
