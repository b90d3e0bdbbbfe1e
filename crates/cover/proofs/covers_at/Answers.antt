use Rattle.cover.proofs.Ranges.{ranges}
use Rattle.cover.proofs.covers_at.Goals as goal

pub overflow_sub-width : goal.overflow_sub-width
overflow_sub-width c = search ranges

pub legs_at-requires : goal.legs_at-requires
legs_at-requires c = search ranges

pub covers_leg-requires : goal.covers_leg-requires
covers_leg-requires c = search ranges

pub returns : goal.returns
returns c = search ranges
