use Rattle.writable.proofs.Laws.{times}
use Rattle.writable.proofs.times_writable.Goals as goal

pub has_arrival-requires : goal.has_arrival-requires
has_arrival-requires c = search times

pub time_writable-requires : goal.time_writable-requires
time_writable-requires c = search times

pub returns-then-not-time_writable : goal.returns-then-not-time_writable
returns-then-not-time_writable c = search times

pub has_departure-requires : goal.has_departure-requires
has_departure-requires c = search times

pub time_writable-requires-2 : goal.time_writable-requires-2
time_writable-requires-2 c = search times

pub returns : goal.returns
returns c = search times
