use Rattle.board_questions.proofs.Needs.{dates}
use Rattle.board_questions.proofs.board_of.Goals as goal

pub dated-on-requires : goal.dated-on-requires
dated-on-requires c = search dates

pub board_on-requires : goal.board_on-requires
board_on-requires c = search dates

pub returns-in-Err : goal.returns-in-Err
returns-in-Err c = search dates

pub returns-in-Ok : goal.returns-in-Ok
returns-in-Ok c = search dates
