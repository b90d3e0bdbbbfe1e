use Rattle.board_questions.proofs.Needs.{stops}
use Rattle.board_questions.proofs.board_on.Goals as goal

pub stop_known-requires : goal.stop_known-requires
stop_known-requires c = search stops

pub returns-then-not-stop_known : goal.returns-then-not-stop_known
returns-then-not-stop_known c = search stops

pub is_index-requires : goal.is_index-requires
is_index-requires c = search stops

pub returns-then-not-is_index : goal.returns-then-not-is_index
returns-then-not-is_index c = search stops

pub own_board-requires : goal.own_board-requires
own_board-requires c = search stops

pub shape_of-list : goal.shape_of-list
shape_of-list c = search stops

pub returns : goal.returns
returns c = search stops
