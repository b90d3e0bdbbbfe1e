use Rattle.names.proofs.Laws.{fitting-parts}
use Rattle.names.proofs.part_allows.Goals as goal

pub returns-then-part-eq0 : goal.returns-then-part-eq0
returns-then-part-eq0 c = search fitting-parts

pub returns-then-b-eq-ANY : goal.returns-then-b-eq-ANY
returns-then-b-eq-ANY c = search fitting-parts

pub has-requires : goal.has-requires
has-requires c = search fitting-parts

pub returns : goal.returns
returns c = search fitting-parts
