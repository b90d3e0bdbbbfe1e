use Rattle.std.proofs.lemmas.Result.{err_from_is_err_and}
use Rattle.quick.proofs.Laws.{walks}
use Rattle.quick.proofs.quick_walk.Goals as goal

pub returns-in_err-quick_refusal-clause-answer : goal.returns-in_err-quick_refusal-clause-answer
returns-in_err-quick_refusal-clause-answer c =
    let p = err_from_is_err_and c.from_residual.result c.from_residual.ensures.1 in
    rw (p.1, p.2) (search (walks, c.in_err-quick_refusal.was))

pub returns-in_err-quick_refusal-clause-listed : goal.returns-in_err-quick_refusal-clause-listed
returns-in_err-quick_refusal-clause-listed c = search (walks, c.in_err-quick_refusal.was)

pub headed_words-u-requires : goal.headed_words-u-requires
headed_words-u-requires c = search (walks, c.in_ok-quick_refusal.was)

pub lookup_words-requires : goal.lookup_words-requires
lookup_words-requires c = search (walks, c.in_ok-quick_refusal.was)

pub walk_by-requires : goal.walk_by-requires
walk_by-requires c = search (walks, c.in_ok-quick_refusal.was)

pub returns : goal.returns
returns c = search (walks, c.in_ok-quick_refusal.was)
