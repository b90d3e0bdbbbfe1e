use Rattle.boards.proofs.Needs.{wholes}
use Rattle.boards.proofs.keep_calls.Goals as goal

pub bounds-w-4 : goal.bounds-w-4
bounds-w-4 c = search wholes

pub stops_end-end-requires : goal.stops_end-end-requires
stops_end-end-requires c = search wholes

pub stops_from-from-requires : goal.stops_from-from-requires
stops_from-from-requires c = search wholes

pub services_from-places-requires : goal.services_from-places-requires
services_from-places-requires c = search wholes

pub bounds-w-0 : goal.bounds-w-0
bounds-w-0 c = search wholes

pub most_calls-requires : goal.most_calls-requires
most_calls-requires c = search wholes

pub first_call-c-requires : goal.first_call-c-requires
first_call-c-requires c = record { lent = search wholes; most_nonzero = search wholes }

pub keep_from-requires : goal.keep_from-requires
keep_from-requires c = record { along = (search wholes, search wholes); on = search wholes }

pub shape_of-kept : goal.shape_of-kept
shape_of-kept c = search wholes

pub returns : goal.returns
returns c = search wholes
