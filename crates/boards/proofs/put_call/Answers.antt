use Rattle.boards.proofs.Needs.{one}
use Rattle.boards.proofs.put_call.Goals as goal

pub gives_none-requires : goal.gives_none-requires
gives_none-requires c = search one

pub returns-then-gives_none : goal.returns-then-gives_none
returns-then-gives_none c = search one

pub put_rows-requires : goal.put_rows-requires
put_rows-requires c = search one

pub shape_of-list : goal.shape_of-list
shape_of-list c = search one

pub returns : goal.returns
returns c = search one
