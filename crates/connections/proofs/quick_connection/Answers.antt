use Rattle.std.proofs.lemmas.Result.{err_from_is_err_and}
use Rattle.connections.proofs.Asked.{quick}
use Rattle.connections.proofs.quick_connection.Goals as goal

pub returns-in_err-quick_refusal : goal.returns-in_err-quick_refusal
returns-in_err-quick_refusal c =
    let p = err_from_is_err_and c.from_residual.result c.from_residual.ensures.1 in
    rw (p.1, p.2) (search (quick, c.in_err-quick_refusal.was))

pub lookup_words-requires : goal.lookup_words-requires
lookup_words-requires c = search (quick, c.in_ok-quick_refusal.was)

pub connection_by-requires : goal.connection_by-requires
connection_by-requires c = search (quick, c.in_ok-quick_refusal.was)

pub returns : goal.returns
returns c = search (quick, c.in_ok-quick_refusal.was)
