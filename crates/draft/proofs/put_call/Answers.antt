use Rattle.draft.proofs.Writing.{written}
use Rattle.draft.proofs.put_call.Goals as goal

pub overflow_add-at : goal.overflow_add-at
overflow_add-at c = search written

pub shape_of-calls : goal.shape_of-calls
shape_of-calls c = search written

pub returns : goal.returns
returns c = search written
