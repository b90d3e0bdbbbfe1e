use native.Mathlib.Omega.{arith}
use Rattle.chain_check.proofs.Needs.{counts}
use Rattle.chain_check.proofs.chain_count.Goals as goal

pub wide-j-requires : goal.wide-j-requires
wide-j-requires c = search counts

pub overflow_mul-e : goal.overflow_mul-e
overflow_mul-e c = search counts

pub offset_bounds-m-j : goal.offset_bounds-m-j
offset_bounds-m-j c = search counts

pub bounds-m-j : goal.bounds-m-j
bounds-m-j c = search counts

pub loop-e-init : goal.loop-e-init
loop-e-init c = (omega arith, omega arith, search counts)

pub count-requires : goal.count-requires
count-requires c = search counts

pub overflow_add-result : goal.overflow_add-result
overflow_add-result c = search counts

pub bucket_at-requires : goal.bucket_at-requires
bucket_at-requires c = search counts

pub count-requires-then-bucket_at-j : goal.count-requires-then-bucket_at-j
count-requires-then-bucket_at-j c = search counts

pub overflow_add-result-then-bucket_at-j : goal.overflow_add-result-then-bucket_at-j
overflow_add-result-then-bucket_at-j c = search counts

pub overflow_add-c : goal.overflow_add-c
overflow_add-c c = search counts

pub overflow_sub-bound : goal.overflow_sub-bound
overflow_sub-bound c = search counts

pub wide-requires : goal.wide-requires
wide-requires c = search counts

pub overflow_mul-e-in-loop-e : goal.overflow_mul-e-in-loop-e
overflow_mul-e-in-loop-e c = search counts

pub overflow_sub-e : goal.overflow_sub-e
overflow_sub-e c = search counts

pub offset_bounds-m-wide : goal.offset_bounds-m-wide
offset_bounds-m-wide c = search counts

pub bounds-m-wide : goal.bounds-m-wide
bounds-m-wide c = search counts

pub loop-e-smaller : goal.loop-e-smaller
loop-e-smaller c = search counts

pub loop-e-preserved : goal.loop-e-preserved
loop-e-preserved c = (omega arith, omega arith, search counts)

pub returns-then-bound-e-clause-value : goal.returns-then-bound-e-clause-value
returns-then-bound-e-clause-value c = search counts

pub returns-then-bucket_at-j-clause-value : goal.returns-then-bucket_at-j-clause-value
returns-then-bucket_at-j-clause-value c = search counts

pub returns-clause-value : goal.returns-clause-value
returns-clause-value c = search counts
