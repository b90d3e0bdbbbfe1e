use Rattle.service_words.proofs.Record.{services}
use Rattle.service_words.proofs.service_into.Goals as goal

pub range_count-n-requires : goal.range_count-n-requires
range_count-n-requires c = search services

pub overflow_add-body : goal.overflow_add-body
overflow_add-body c = search services

pub head_into-requires : goal.head_into-requires
head_into-requires c = search services

pub shape_of-table : goal.shape_of-table
shape_of-table c = search services

pub returns : goal.returns
returns c = search services

pub body_into-sizes-requires-clause-ranges_bound : goal.body_into-sizes-requires-clause-ranges_bound
body_into-sizes-requires-clause-ranges_bound c = search services

pub body_into-sizes-requires-clause-ranges_in_bounds : goal.body_into-sizes-requires-clause-ranges_in_bounds
body_into-sizes-requires-clause-ranges_in_bounds c = search services
