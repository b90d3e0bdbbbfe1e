use native.Mathlib.Omega.{arith}
use Rattle.chains.proofs.Follow.{follows}
use Rattle.chains.proofs.along.Goals as goal

pub loop-e-init : goal.loop-e-init
loop-e-init c = search follows

pub returns-then-bound-e : goal.returns-then-bound-e
returns-then-bound-e c = search follows

pub wide-k-requires : goal.wide-k-requires
wide-k-requires c = search follows

pub overflow_mul-size : goal.overflow_mul-size
overflow_mul-size c = search follows

pub overflow_sub-end : goal.overflow_sub-end
overflow_sub-end c = search follows

pub offset_bounds-w-end : goal.offset_bounds-w-end
offset_bounds-w-end c = search follows

pub bounds-w-end : goal.bounds-w-end
bounds-w-end c = search follows

pub returns-then-w-end : goal.returns-then-w-end
returns-then-w-end c = search follows

pub overflow_sub-bound : goal.overflow_sub-bound
overflow_sub-bound c = search follows

pub overflow_mul-e : goal.overflow_mul-e
overflow_mul-e c = search follows

pub overflow_add-e : goal.overflow_add-e
overflow_add-e c = search follows

pub overflow_sub-e : goal.overflow_sub-e
overflow_sub-e c = search follows

pub offset_bounds-x-from : goal.offset_bounds-x-from
offset_bounds-x-from c = search follows

pub bounds-x-from : goal.bounds-x-from
bounds-x-from c = search follows

pub loop-e-smaller : goal.loop-e-smaller
loop-e-smaller c = search follows

pub loop-e-preserved : goal.loop-e-preserved
loop-e-preserved c = (omega arith, search follows)

pub returns : goal.returns
returns c = search follows
