use Rattle.boards.proofs.Needs.{one}
use Rattle.boards.proofs.count_call.Goals as goal

pub gives_none-requires : goal.gives_none-requires
gives_none-requires c = search one

pub returns-then-gives_none : goal.returns-then-gives_none
returns-then-gives_none c = search one

pub call_batch-b-requires : goal.call_batch-b-requires
call_batch-b-requires c = search one

pub batch_size-requires : goal.batch_size-requires
batch_size-requires c = search one

pub returns : goal.returns
returns c = search one
