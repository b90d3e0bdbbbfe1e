use Rattle.base.proofs.Laws.{tests}
use Rattle.probe.proofs.probe_runs.Goals as goal

pub runs_on-requires : goal.runs_on-requires
runs_on-requires c = search tests

pub returns-then-d-lt-MOST_FRAMED : goal.returns-then-d-lt-MOST_FRAMED
returns-then-d-lt-MOST_FRAMED c = search (tests, ← c.runs_on.ensures)

pub returns : goal.returns
returns c = search tests
