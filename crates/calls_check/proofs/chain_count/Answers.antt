use native.Mathlib.Omega.{arith}
use Rattle.calls_check.proofs.Needs.{counts}
use Rattle.calls_check.proofs.chain_count.Goals as goal

pub offset_bounds-x-b : goal.offset_bounds-x-b
offset_bounds-x-b c = search counts

pub bounds-x-b : goal.bounds-x-b
bounds-x-b c = search counts

pub size-e-requires : goal.size-e-requires
size-e-requires c = search counts

pub loop-e-init : goal.loop-e-init
loop-e-init c = (omega arith, omega arith, search counts)

pub overflow_add-result : goal.overflow_add-result
overflow_add-result c = search counts

pub returns-then-bound-e : goal.returns-then-bound-e
returns-then-bound-e c = search counts

pub stop_of-requires : goal.stop_of-requires
stop_of-requires c = search counts

pub overflow_add-result-then-stop_of-b : goal.overflow_add-result-then-stop_of-b
overflow_add-result-then-stop_of-b c = search counts

pub returns-then-stop_of-b : goal.returns-then-stop_of-b
returns-then-stop_of-b c = search counts

pub overflow_add-c : goal.overflow_add-c
overflow_add-c c = search counts

pub overflow_sub-bound : goal.overflow_sub-bound
overflow_sub-bound c = search counts

pub before-e-requires : goal.before-e-requires
before-e-requires c = search counts

pub loop-e-smaller : goal.loop-e-smaller
loop-e-smaller c = search counts

pub loop-e-preserved : goal.loop-e-preserved
loop-e-preserved c = (omega arith, omega arith, search counts)

pub returns : goal.returns
returns c = search counts
