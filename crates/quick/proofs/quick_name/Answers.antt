use Rattle.std.proofs.lemmas.Result.{err_from_is_err_and}
use Rattle.quick.proofs.Laws.{small}
use Rattle.quick.proofs.quick_name.Goals as goal

pub returns-in_err-quick_refusal : goal.returns-in_err-quick_refusal
returns-in_err-quick_refusal c =
    let p = err_from_is_err_and c.from_residual.result c.from_residual.ensures.1 in
    rw (p.1, p.2) (search (small, c.in_err-quick_refusal.was))

pub headed_words-u-requires : goal.headed_words-u-requires
headed_words-u-requires c = search (small, c.in_ok-quick_refusal.was)

pub lookup_words-requires : goal.lookup_words-requires
lookup_words-requires c = search (small, c.in_ok-quick_refusal.was)

pub name_by-requires : goal.name_by-requires
name_by-requires c = search (small, c.in_ok-quick_refusal.was)

pub returns : goal.returns
returns c = search (small, c.in_ok-quick_refusal.was)
