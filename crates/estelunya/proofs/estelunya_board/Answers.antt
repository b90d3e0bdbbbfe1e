use Rattle.base.proofs.Laws.{tests}
use Rattle.estelunya.proofs.estelunya_board.Goals as goal

pub ask_board-requires : goal.ask_board-requires
ask_board-requires c = search tests

pub board_result-requires : goal.board_result-requires
board_result-requires c = search tests

pub shape_of-list : goal.shape_of-list
shape_of-list c = search tests
