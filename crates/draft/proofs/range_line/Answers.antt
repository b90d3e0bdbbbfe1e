use Rattle.draft.proofs.Reading.{readers}
use Rattle.draft.proofs.range_line.Goals as goal

pub offset_bounds-ranges-at : goal.offset_bounds-ranges-at
offset_bounds-ranges-at c = search readers

pub bounds-ranges-at : goal.bounds-ranges-at
bounds-ranges-at c = search readers

pub returns : goal.returns
returns c = search readers
