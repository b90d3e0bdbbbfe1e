use Rattle.std.proofs.lemmas.Result.{err_from_is_err_and}
use Rattle.walk.proofs.Laws.{dates}
use Rattle.walk.proofs.walk_by.Goals as goal

pub returns-in_err-k-clause-answer : goal.returns-in_err-k-clause-answer
returns-in_err-k-clause-answer c =
    let p = err_from_is_err_and c.from_residual.result c.from_residual.ensures.1 in
    rw (p.1, p.2) (search (dates, c.in_err-k.was))

pub returns-in_err-k-clause-listed : goal.returns-in_err-k-clause-listed
returns-in_err-k-clause-listed c = search (dates, c.in_err-k.was)

pub walk_on-requires : goal.walk_on-requires
walk_on-requires c = search (dates, c.in_ok-k.was)

pub returns : goal.returns
returns c = search (dates, c.in_ok-k.was)
