use Rattle.std.proofs.lemmas.Result.{err_from_is_err_and}
use Rattle.connections.proofs.Stages.{stages}
use Rattle.connections.proofs.stage_of.Goals as goal

pub returns-in_err-k : goal.returns-in_err-k
returns-in_err-k c =
    let p = err_from_is_err_and c.from_residual.result c.from_residual.ensures.1 in
    rw (p.1, p.2) (search (stages, c.in_err-k.was))

pub stage_on-requires : goal.stage_on-requires
stage_on-requires c = search (stages, c.in_ok-k.was)

pub returns : goal.returns
returns c = search (stages, c.in_ok-k.was)
