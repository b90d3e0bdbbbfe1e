use Rattle.base.proofs.Laws.{tests}
use Rattle.probe.proofs.probe_bit.Goals as goal

pub bit_of-requires : goal.bit_of-requires
bit_of-requires c = search tests

pub returns-then-k-lt-BIT_COUNT : goal.returns-then-k-lt-BIT_COUNT
returns-then-k-lt-BIT_COUNT c = search (tests, ← c.bit_of.ensures)

pub returns : goal.returns
returns c = search tests
