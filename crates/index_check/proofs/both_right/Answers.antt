use Rattle.index_check.proofs.Sections.{pairs}
use Rattle.index_check.proofs.both_right.Goals as goal

pub section_right-requires : goal.section_right-requires
section_right-requires c = search pairs

pub returns-then-not-section_right : goal.returns-then-not-section_right
returns-then-not-section_right c = search pairs

pub section_right-requires-2 : goal.section_right-requires-2
section_right-requires-2 c = search pairs

pub returns : goal.returns
returns c = search pairs
