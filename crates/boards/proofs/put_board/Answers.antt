use Rattle.boards.proofs.Needs.{wholes}
use Rattle.boards.proofs.put_board.Goals as goal

pub bounds-w-4 : goal.bounds-w-4
bounds-w-4 c = search wholes

pub stops_end-end-requires : goal.stops_end-end-requires
stops_end-end-requires c = search wholes

pub stops_from-from-requires : goal.stops_from-from-requires
stops_from-from-requires c = search wholes

pub services_from-places-requires : goal.services_from-places-requires
services_from-places-requires c = search wholes

pub bounds-w-0 : goal.bounds-w-0
bounds-w-0 c = search wholes

pub most_calls-requires : goal.most_calls-requires
most_calls-requires c = search wholes

pub shape_of-list : goal.shape_of-list
shape_of-list c = search wholes

pub returns : goal.returns
returns c = search wholes

pub first_call-c-requires-clause-most_nonzero : goal.first_call-c-requires-clause-most_nonzero
first_call-c-requires-clause-most_nonzero c = search wholes

pub put_from-requires-clause-start_in_bounds : goal.put_from-requires-clause-start_in_bounds
put_from-requires-clause-start_in_bounds c = search wholes

pub put_from-requires-clause-along : goal.put_from-requires-clause-along
put_from-requires-clause-along c = search wholes

pub first_call-c-requires-clause-lent : goal.first_call-c-requires-clause-lent
first_call-c-requires-clause-lent c = search wholes
