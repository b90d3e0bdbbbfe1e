use Rattle.std.proofs.lemmas.Result.{err_from_is_err_and}
use Rattle.questions.proofs.Laws.{days}
use Rattle.questions.proofs.day_by.Goals as goal

pub returns-in_err-k : goal.returns-in_err-k
returns-in_err-k c =
    let p = err_from_is_err_and c.from_residual.result c.from_residual.ensures.1 in
    rw (p.1, p.2) (search (days, c.in_err-k.was))

pub field_day-requires : goal.field_day-requires
field_day-requires c = search (days, c.in_ok-k.was)

pub returns : goal.returns
returns c = search (days, c.in_ok-k.was)
