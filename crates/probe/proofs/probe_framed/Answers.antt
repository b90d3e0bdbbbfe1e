use Rattle.base.proofs.Laws.{tests}
use Rattle.probe.proofs.probe_framed.Goals as goal

pub is_framed-requires : goal.is_framed-requires
is_framed-requires c = search tests

pub returns-then-n-le-MOST_FRAMED : goal.returns-then-n-le-MOST_FRAMED
returns-then-n-le-MOST_FRAMED c = search (tests, ← c.is_framed.ensures)

pub returns : goal.returns
returns c = search tests
