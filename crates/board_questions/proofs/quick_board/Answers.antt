use Rattle.board_questions.proofs.Needs.{quicks}
use Rattle.board_questions.proofs.quick_board.Goals as goal

pub returns-in-Err : goal.returns-in-Err
returns-in-Err c = search quicks

pub headed_words-u-requires : goal.headed_words-u-requires
headed_words-u-requires c = search quicks

pub lookup_words-requires : goal.lookup_words-requires
lookup_words-requires c = search quicks

pub call_words-requires : goal.call_words-requires
call_words-requires c = search quicks

pub board_by-requires : goal.board_by-requires
board_by-requires c = search quicks

pub returns-in-Ok : goal.returns-in-Ok
returns-in-Ok c = search quicks
