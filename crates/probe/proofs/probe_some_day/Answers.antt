use Rattle.base.proofs.Laws.{tests}
use Rattle.probe.proofs.probe_some_day.Goals as goal

pub some_day-requires : goal.some_day-requires
some_day-requires c = search tests

pub returns-then-n-le-MOST_FRAMED : goal.returns-then-n-le-MOST_FRAMED
returns-then-n-le-MOST_FRAMED c = search (tests, ← c.some_day.ensures)

pub returns : goal.returns
returns c = search tests
