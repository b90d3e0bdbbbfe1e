use Rattle.board_questions.proofs.Needs.{ons}
use Rattle.board_questions.proofs.board_by_day.Goals as goal

pub stop_known-requires : goal.stop_known-requires
stop_known-requires c = search ons

pub returns-then-not-stop_known : goal.returns-then-not-stop_known
returns-then-not-stop_known c = search ons

pub list_board-requires : goal.list_board-requires
list_board-requires c = search ons

pub shape_of-list : goal.shape_of-list
shape_of-list c = search ons

pub returns : goal.returns
returns c = search ons
