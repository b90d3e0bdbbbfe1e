use native.Mathlib.Omega.{arith}
use Rattle.cover.proofs.Ranges.{ranges}
use Rattle.cover.proofs.covering.Goals as goal

pub loop-left-init : goal.loop-left-init
loop-left-init c = (search ranges, omega arith, search ranges)

pub covers_at-here-requires : goal.covers_at-here-requires
covers_at-here-requires c = search ranges

pub overflow_add-at : goal.overflow_add-at
overflow_add-at c = search ranges

pub overflow_sub-left : goal.overflow_sub-left
overflow_sub-left c = search ranges

pub overflow_add-count : goal.overflow_add-count
overflow_add-count c = search ranges

pub loop-left-smaller-then-here : goal.loop-left-smaller-then-here
loop-left-smaller-then-here c = search ranges

pub loop-left-preserved-then-here : goal.loop-left-preserved-then-here
loop-left-preserved-then-here c = (search ranges, omega arith, search ranges)

pub returns : goal.returns
returns c = search ranges

pub loop-left-preserved : goal.loop-left-preserved
loop-left-preserved c = (search ranges, omega arith, search ranges)
