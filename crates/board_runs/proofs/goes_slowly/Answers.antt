use Rattle.board_runs.proofs.Goes.{slowly}
use Rattle.board_runs.proofs.goes_slowly.Goals as goal

pub bounds-w-4 : goal.bounds-w-4
bounds-w-4 c = search slowly

pub record_sound-requires : goal.record_sound-requires
record_sound-requires c = search slowly

pub returns-then-not-record_sound : goal.returns-then-not-record_sound
returns-then-not-record_sound c = search slowly

pub course_on-requires : goal.course_on-requires
course_on-requires c = search slowly

pub goes_on-requires : goal.goes_on-requires
goes_on-requires c = search slowly

pub returns : goal.returns
returns c = search slowly
