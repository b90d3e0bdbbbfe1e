use Rattle.course.proofs.legs.Ranges.{ranges}
use Rattle.course.proofs.legs.range_runs.Goals as goal

pub returns-then-leg-range : goal.returns-then-leg-range
returns-then-leg-range c = search ranges

pub returns-then-range-leg : goal.returns-then-range-leg
returns-then-range-leg c = search ranges

pub field_words-own-requires : goal.field_words-own-requires
field_words-own-requires c = search ranges

pub field_runs-requires : goal.field_runs-requires
field_runs-requires c = search ranges

pub returns : goal.returns
returns c = search ranges
