use Rattle.boards.proofs.Needs.{one}
use Rattle.boards.proofs.put_rows.Goals as goal

pub call_batch-b-requires : goal.call_batch-b-requires
call_batch-b-requires c = search one

pub put_batch-requires : goal.put_batch-requires
put_batch-requires c = search one

pub shape_of-list : goal.shape_of-list
shape_of-list c = search one

pub returns : goal.returns
returns c = search one
