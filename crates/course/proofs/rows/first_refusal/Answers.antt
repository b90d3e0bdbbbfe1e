use Rattle.std.proofs.lemmas.Result.{err_from_is_err_and}
use native.Mathlib.Omega.{arith}
use Rattle.course.proofs.rows.Calls.{calls}
use Rattle.course.proofs.rows.first_refusal.Goals as goal

pub loop-i-init : goal.loop-i-init
loop-i-init c = search calls

pub overflow_add-start : goal.overflow_add-start
overflow_add-start c = search calls

pub call_of-call-requires : goal.call_of-call-requires
call_of-call-requires c = search calls

pub call_refusal-requires : goal.call_refusal-requires
call_refusal-requires c = search calls

pub returns-in_err-call_refusal : goal.returns-in_err-call_refusal
returns-in_err-call_refusal c =
    let p = err_from_is_err_and c.from_residual.result c.from_residual.ensures.1 in
    rw (p.1, p.2) (search (calls, c.in_err-call_refusal.was))

pub needed_last-before-requires : goal.needed_last-before-requires
needed_last-before-requires c = search calls

pub overflow_add-i : goal.overflow_add-i
overflow_add-i c = search calls

pub loop-i-smaller : goal.loop-i-smaller
loop-i-smaller c = search calls

pub loop-i-preserved : goal.loop-i-preserved
loop-i-preserved c = (omega arith, search (calls, c.in_ok-call_refusal.was))

pub returns : goal.returns
returns c = search calls
