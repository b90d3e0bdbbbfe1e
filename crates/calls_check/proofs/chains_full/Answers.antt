use Rattle.calls_check.proofs.Needs.{full}
use Rattle.calls_check.proofs.chains_full.Goals as goal

pub bounds-w-0 : goal.bounds-w-0
bounds-w-0 c = search full

pub count-end-requires : goal.count-end-requires
count-end-requires c = search full

pub count_calls-n-requires : goal.count_calls-n-requires
count_calls-n-requires c = search full

pub total-requires : goal.total-requires
total-requires c = search full

pub returns : goal.returns
returns c = search full
