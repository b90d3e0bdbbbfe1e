use Rattle.board_questions.proofs.Needs.{bys}
use Rattle.board_questions.proofs.board_by.Goals as goal

pub board_by_day-requires : goal.board_by_day-requires
board_by_day-requires c = search bys

pub returns-in-Err : goal.returns-in-Err
returns-in-Err c = search bys

pub returns-in-Ok : goal.returns-in-Ok
returns-in-Ok c = search bys
