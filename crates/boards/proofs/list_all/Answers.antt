use Rattle.boards.proofs.Needs.{alls}
use Rattle.boards.proofs.list_all.Goals as goal

pub put_board-count-requires : goal.put_board-count-requires
put_board-count-requires c = search alls

pub sort_rows-requires : goal.sort_rows-requires
sort_rows-requires c = search alls

pub shape_of-list : goal.shape_of-list
shape_of-list c = search alls

pub returns : goal.returns
returns c = search alls
