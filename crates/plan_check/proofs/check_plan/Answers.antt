use Rattle.std.proofs.lemmas.Result.{err_from_is_err_and}
use Rattle.plan_check.proofs.Checking.{stray-first, then-services}
use Rattle.plan_check.proofs.check_plan.Goals as goal

pub returns-in_err-start : goal.returns-in_err-start
returns-in_err-start c =
    let p = err_from_is_err_and c.from_residual.result c.from_residual.ensures.1 in
    rw (p.1, p.2) (stray-first _ _ _ _ _ _ _ _ _ c.in_err-start.was c.head_end.ensures)

pub returns : goal.returns
returns c = then-services _ _ _ _ _ _ _ _ _ c.in_ok-start.was c.head_end.ensures c.check_services.ensures
