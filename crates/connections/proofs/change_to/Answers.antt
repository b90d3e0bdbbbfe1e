use Rattle.std.proofs.lemmas.Result.{err_from_is_err_and}
use Rattle.connections.proofs.Stages.{changes}
use Rattle.connections.proofs.change_to.Goals as goal

pub returns-in_err-change_refusal : goal.returns-in_err-change_refusal
returns-in_err-change_refusal c =
    let p = err_from_is_err_and c.from_residual.result c.from_residual.ensures.1 in
    rw (p.1, p.2) (search (changes, c.in_err-change_refusal.was))

pub returns : goal.returns
returns c = search (changes, c.in_ok-change_refusal.was)
