use native.Mathlib.Omega.{arith}
use Rattle.course.proofs.rows.Times.{later}
use Rattle.course.proofs.rows.later_stand.Goals as goal

pub size-requires : goal.size-requires
size-requires c = search later

pub overflow_mul-p : goal.overflow_mul-p
overflow_mul-p c = search later

pub overflow_add-p : goal.overflow_add-p
overflow_add-p c = search later

pub loop-k-init : goal.loop-k-init
loop-k-init c = search later

pub call_at-call-requires : goal.call_at-call-requires
call_at-call-requires c = search later

pub in_order-requires : goal.in_order-requires
in_order-requires c = search later

pub returns-then-not-in_order : goal.returns-then-not-in_order
returns-then-not-in_order c = search later

pub overflow_add-p-in-loop-k : goal.overflow_add-p-in-loop-k
overflow_add-p-in-loop-k c = search later

pub overflow_sub-k : goal.overflow_sub-k
overflow_sub-k c = search later

pub loop-k-smaller : goal.loop-k-smaller
loop-k-smaller c = search later

pub loop-k-preserved : goal.loop-k-preserved
loop-k-preserved c = (omega arith, search later)

pub returns-then-both-ne3 : goal.returns-then-both-ne3
returns-then-both-ne3 c = search later

pub call_at-requires : goal.call_at-requires
call_at-requires c = search later

pub arrives-requires : goal.arrives-requires
arrives-requires c = search later

pub returns : goal.returns
returns c = search later
