use Rattle.calls_check.proofs.Entries.{small}
use Rattle.calls_check.proofs.entries_right.Goals as goal

pub bounds-w-0 : goal.bounds-w-0
bounds-w-0 c = search small

pub count-end-requires : goal.count-end-requires
count-end-requires c = search small

pub services_right-requires : goal.services_right-requires
services_right-requires c = search small

pub returns : goal.returns
returns c = search small
