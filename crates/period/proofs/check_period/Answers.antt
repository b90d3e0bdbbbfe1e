use mathlib.Core.Path.{sym, ◌∙◌}
use Rattle.std.proofs.lemmas.Result.{err_from_is_err_and}
use Rattle.period.proofs.Laws.{periods, second-out}
use Rattle.period.proofs.check_period.Goals as goal

pub returns-in_err-start : goal.returns-in_err-start
returns-in_err-start c = search periods

pub returns-in_err-end : goal.returns-in_err-end
returns-in_err-end c =
    let p = err_from_is_err_and c.from_residual-in_err-end.result c.from_residual-in_err-end.ensures.1 in
    rw (p.1, p.2) (sym c.in_err-end.was ∙ second-out _ _ c.date_line.ensures _ _ c.in_ok-start.was _ c.date_line-2.ensures _ c.in_err-end.was)

pub returns-in_default : goal.returns-in_default
returns-in_default c = search (periods, c.in_ok-start.was, c.in_ok-end.was)

pub returns-then-f-at : goal.returns-then-f-at
returns-then-f-at c = search (periods, c.in_ok-start.was, c.in_ok-end.was)

pub returns-then-third-f : goal.returns-then-third-f
returns-then-third-f c = search (periods, c.in_ok-start.was, c.in_ok-end.was)

pub returns : goal.returns
returns c = search (periods, c.in_ok-start.was, c.in_ok-end.was)
