use Rattle.board_runs.proofs.Needs.{courses}
use Rattle.board_runs.proofs.goes_on.Goals as goal

pub is_left-requires : goal.is_left-requires
is_left-requires c = search courses

pub returns-in-Ok-Some : goal.returns-in-Ok-Some
returns-in-Ok-Some c = search courses

pub returns-in-Ok-None : goal.returns-in-Ok-None
returns-in-Ok-None c = search courses

pub returns-in-Err : goal.returns-in-Err
returns-in-Err c = search courses
