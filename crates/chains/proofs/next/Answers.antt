use Rattle.chains.proofs.Follow.{starts}
use Rattle.chains.proofs.next.Goals as goal

pub overflow_sub-e : goal.overflow_sub-e
overflow_sub-e c = search starts

pub wide-requires : goal.wide-requires
wide-requires c = search starts

pub overflow_mul-wide : goal.overflow_mul-wide
overflow_mul-wide c = search starts

pub overflow_add-from : goal.overflow_add-from
overflow_add-from c = search starts

pub overflow_sub-from : goal.overflow_sub-from
overflow_sub-from c = search starts

pub offset_bounds-x-from : goal.offset_bounds-x-from
offset_bounds-x-from c = search starts

pub bounds-x-from : goal.bounds-x-from
bounds-x-from c = search starts

pub along-requires : goal.along-requires
along-requires c = search starts

pub returns : goal.returns
returns c = search starts
