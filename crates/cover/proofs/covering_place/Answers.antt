use Rattle.cover.proofs.Ranges.{ranges}
use Rattle.cover.proofs.covering_place.Goals as goal

pub loop-left-init : goal.loop-left-init
loop-left-init c = search ranges

pub covers_at-requires : goal.covers_at-requires
covers_at-requires c = search ranges

pub returns-then-covers_at : goal.returns-then-covers_at
returns-then-covers_at c = search ranges

pub overflow_add-at : goal.overflow_add-at
overflow_add-at c = search ranges

pub overflow_sub-left : goal.overflow_sub-left
overflow_sub-left c = search ranges

pub loop-left-smaller : goal.loop-left-smaller
loop-left-smaller c = search ranges

pub loop-left-preserved : goal.loop-left-preserved
loop-left-preserved c = search ranges

pub returns : goal.returns
returns c = search ranges
