use Rattle.base.proofs.Laws.{tests}
use Rattle.probe.proofs.probe_number.Goals as goal

pub width-requires : goal.width-requires
width-requires c = search tests

pub number_in-requires : goal.number_in-requires
number_in-requires c = search tests

pub returns-then-width-le9 : goal.returns-then-width-le9
returns-then-width-le9 c = search (tests, ← c.number_in.ensures, ← c.width.ensures)

pub returns : goal.returns
returns c = search (tests, ← c.width.ensures)
