use Rattle.service_words.proofs.Record.{bodies}
use Rattle.service_words.proofs.body_into.Goals as goal

pub calls_into-start-requires : goal.calls_into-start-requires
calls_into-start-requires c = search bodies

pub ranges_into-ends-requires : goal.ranges_into-ends-requires
ranges_into-ends-requires c = search bodies

pub sizes_of-requires : goal.sizes_of-requires
sizes_of-requires c = (search bodies, search bodies, search bodies, search bodies, search bodies)

pub shape_of-table : goal.shape_of-table
shape_of-table c = search bodies

pub returns : goal.returns
returns c = search bodies
