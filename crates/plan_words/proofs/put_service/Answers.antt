use Rattle.plan_words.proofs.Putting.{holding}
use Rattle.plan_words.proofs.put_service.Goals as goal

pub read_again-read-requires : goal.read_again-read-requires
read_again-read-requires c = search holding

pub shape_of-calls : goal.shape_of-calls
shape_of-calls c = search holding

pub shape_of-ranges : goal.shape_of-ranges
shape_of-ranges c = search holding

pub shape_of-table : goal.shape_of-table
shape_of-table c = search holding

pub service_into-words-requires-clause-ranges_in_bounds : goal.service_into-words-requires-clause-ranges_in_bounds
service_into-words-requires-clause-ranges_in_bounds c = search holding

pub returns-clause-table_after : goal.returns-clause-table_after
returns-clause-table_after c = search holding

pub returns-clause-service_taken : goal.returns-clause-service_taken
returns-clause-service_taken c = search holding

pub service_into-words-requires-clause-ranges_len_bound : goal.service_into-words-requires-clause-ranges_len_bound
service_into-words-requires-clause-ranges_len_bound c = search holding
