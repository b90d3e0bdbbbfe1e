use Rattle.std.proofs.lemmas.Result.{err_from_is_err_and}
use Rattle.walk.proofs.Laws.{index}
use Rattle.walk.proofs.walk_on.Goals as goal

pub returns-in_err-p-clause-answer : goal.returns-in_err-p-clause-answer
returns-in_err-p-clause-answer c =
    let p = err_from_is_err_and c.from_residual.result c.from_residual.ensures.1 in
    rw (p.1, p.2) (search (index, c.in_err-p.was))

pub returns-in_err-p-clause-listed : goal.returns-in_err-p-clause-listed
returns-in_err-p-clause-listed c = search (index, c.in_err-p.was)

pub words_from-requires : goal.words_from-requires
words_from-requires c = search (index, c.in_ok-p.was)

pub walk_record-requires : goal.walk_record-requires
walk_record-requires c = search (index, c.in_ok-p.was)

pub returns : goal.returns
returns c = search (index, c.in_ok-p.was)
