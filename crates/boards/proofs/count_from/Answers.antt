use Rattle.boards.proofs.Needs.{counts}
use Rattle.boards.proofs.count_from.Goals as goal

pub loop-c-init : goal.loop-c-init
loop-c-init c = search counts

pub count_call-total-requires : goal.count_call-total-requires
count_call-total-requires c = search counts

pub overflow_add-total : goal.overflow_add-total
overflow_add-total c = search counts

pub next_call-c-requires : goal.next_call-c-requires
next_call-c-requires c = search counts

pub loop-c-smaller : goal.loop-c-smaller
loop-c-smaller c = search counts

pub loop-c-preserved : goal.loop-c-preserved
loop-c-preserved c = (search counts, search counts)

pub returns : goal.returns
returns c = search counts
