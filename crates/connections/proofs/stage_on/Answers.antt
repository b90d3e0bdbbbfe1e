use Rattle.std.proofs.lemmas.Result.{err_from_is_err_and}
use Rattle.connections.proofs.Stages.{records}
use Rattle.connections.proofs.stage_on.Goals as goal

pub returns-in_err-p : goal.returns-in_err-p
returns-in_err-p c =
    let p = err_from_is_err_and c.from_residual.result c.from_residual.ensures.1 in
    rw (p.1, p.2) (search (records, c.in_err-p.was))

pub words_from-requires : goal.words_from-requires
words_from-requires c = search (records, c.in_ok-p.was)

pub stage_in-requires : goal.stage_in-requires
stage_in-requires c = search (records, c.in_ok-p.was)

pub returns : goal.returns
returns c = search (records, c.in_ok-p.was)
