use Rattle.names.proofs.Laws.{fitting-parts}
use Rattle.names.proofs.pattern_fits.Goals as goal

pub part_allows-requires : goal.part_allows-requires
part_allows-requires c = search fitting-parts

pub part_allows-requires-then-part_allows : goal.part_allows-requires-then-part_allows
part_allows-requires-then-part_allows c = search fitting-parts

pub returns-then-part_allows : goal.returns-then-part_allows
returns-then-part_allows c = search fitting-parts

pub returns : goal.returns
returns c = search fitting-parts
