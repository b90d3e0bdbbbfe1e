use Rattle.base.proofs.Laws.{tests}
use Rattle.probe.proofs.probe_line.Goals as goal

pub line_from-requires : goal.line_from-requires
line_from-requires c = search tests

pub flat_cut-requires : goal.flat_cut-requires
flat_cut-requires c = search tests

pub returns-then-no-lt4294967295 : goal.returns-then-no-lt4294967295
returns-then-no-lt4294967295 c = search (tests, ← c.flat_cut.ensures, ← c.line_from.ensures)

pub returns-else-no-lt4294967295 : goal.returns-else-no-lt4294967295
returns-else-no-lt4294967295 c = search tests

pub returns-else-at-file : goal.returns-else-at-file
returns-else-at-file c = search tests
