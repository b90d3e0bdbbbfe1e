use Rattle.connections.proofs.Along.{rides}
use Rattle.connections.proofs.stage_ridden.Goals as goal

pub call_of-boarding-requires : goal.call_of-boarding-requires
call_of-boarding-requires c = search rides

pub call_of-alighting-requires : goal.call_of-alighting-requires
call_of-alighting-requires c = search rides

pub may_ride-requires : goal.may_ride-requires
may_ride-requires c = search rides

pub returns-then-not-may_ride : goal.returns-then-not-may_ride
returns-then-not-may_ride c = search rides

pub returns : goal.returns
returns c = search rides
