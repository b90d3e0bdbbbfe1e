use Rattle.whole_index.proofs.Answers.{marks}
use Rattle.whole_index.proofs.marked_size.Goals as goal

pub call_index_size-requires : goal.call_index_size-requires
call_index_size-requires c = search marks

pub overflow_add-result : goal.overflow_add-result
overflow_add-result c = search marks

pub returns : goal.returns
returns c = search marks
