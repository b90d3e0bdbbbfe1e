use Rattle.connections.proofs.Along.{betweens}
use Rattle.connections.proofs.stage_between.Goals as goal

pub opening_at-requires : goal.opening_at-requires
opening_at-requires c = search betweens

pub lateness-late-requires : goal.lateness-late-requires
lateness-late-requires c = search betweens

pub stop_number-requires : goal.stop_number-requires
stop_number-requires c = search betweens

pub moment_of-requires : goal.moment_of-requires
moment_of-requires c = search betweens

pub category_on-requires : goal.category_on-requires
category_on-requires c = search betweens

pub stop_number-requires-2 : goal.stop_number-requires-2
stop_number-requires-2 c = search betweens

pub moment_of-requires-2 : goal.moment_of-requires-2
moment_of-requires-2 c = search betweens

pub arriving_at-requires : goal.arriving_at-requires
arriving_at-requires c = search betweens

pub returns : goal.returns
returns c = search betweens
