use Rattle.stops_numbered.proofs.Needs.{inner}
use Rattle.stops_numbered.proofs.next.Goals as goal

pub count-requires : goal.count-requires
count-requires c = search inner

pub overflow_mul-end : goal.overflow_mul-end
overflow_mul-end c = search inner

pub overflow_add-end : goal.overflow_add-end
overflow_add-end c = search inner

pub overflow_sub-n : goal.overflow_sub-n
overflow_sub-n c = search inner

pub next-requires : goal.next-requires
next-requires c = search inner

pub overflow_sub-result : goal.overflow_sub-result
overflow_sub-result c = search inner

pub returns : goal.returns
returns c = search inner
