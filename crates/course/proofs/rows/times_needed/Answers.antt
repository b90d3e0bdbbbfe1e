use Rattle.course.proofs.rows.Calls.{times}
use Rattle.course.proofs.rows.times_needed.Goals as goal

pub has_arrival-requires : goal.has_arrival-requires
has_arrival-requires c = search times

pub time_fine-requires : goal.time_fine-requires
time_fine-requires c = search times

pub returns-then-not-time_fine : goal.returns-then-not-time_fine
returns-then-not-time_fine c = search times

pub has_departure-requires : goal.has_departure-requires
has_departure-requires c = search times

pub choose-requires : goal.choose-requires
choose-requires c = search times

pub time_fine-requires-2 : goal.time_fine-requires-2
time_fine-requires-2 c = search times

pub returns : goal.returns
returns c = search times
