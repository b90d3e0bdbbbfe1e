use Rattle.board_questions.proofs.Needs.{owns}
use Rattle.board_questions.proofs.own_board.Goals as goal

pub index_size-n-requires : goal.index_size-n-requires
index_size-n-requires c = search owns

pub slice_bounds-list_board-count : goal.slice_bounds-list_board-count
slice_bounds-list_board-count c = search owns

pub slice_bounds-list_board-start : goal.slice_bounds-list_board-start
slice_bounds-list_board-start c = search owns

pub slice_bounds-list_board-end : goal.slice_bounds-list_board-end
slice_bounds-list_board-end c = search owns

pub offset_bounds-x-n : goal.offset_bounds-x-n
offset_bounds-x-n c = search owns

pub slice_bounds-list_board-count-2 : goal.slice_bounds-list_board-count-2
slice_bounds-list_board-count-2 c = search owns

pub slice_bounds-list_board-start-2 : goal.slice_bounds-list_board-start-2
slice_bounds-list_board-start-2 c = search owns

pub slice_bounds-list_board-end-2 : goal.slice_bounds-list_board-end-2
slice_bounds-list_board-end-2 c = search owns

pub list_board-requires : goal.list_board-requires
list_board-requires c = search owns

pub shape_of-list : goal.shape_of-list
shape_of-list c = search owns

pub returns : goal.returns
returns c = search owns
