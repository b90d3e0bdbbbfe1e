use Rattle.board_questions.proofs.Needs.{plains}
use Rattle.board_questions.proofs.ask_board.Goals as goal

pub returns-in_default : goal.returns-in_default
returns-in_default c = search plains

pub board_of-requires : goal.board_of-requires
board_of-requires c = search plains

pub returns : goal.returns
returns c = search plains
