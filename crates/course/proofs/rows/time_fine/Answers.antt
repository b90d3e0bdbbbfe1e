use Rattle.course.proofs.rows.Calls.{times}
use Rattle.course.proofs.rows.time_fine.Goals as goal

pub returns-then-free : goal.returns-then-free
returns-then-free c = search times

pub returns-then-not-stated : goal.returns-then-not-stated
returns-then-not-stated c = search times

pub returns : goal.returns
returns c = search times
