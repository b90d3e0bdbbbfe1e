-- `classes::rises` meets its contract: the codes before the loop's place are below a number, and stand once. Assumes nothing.
use Prim.Native.Nat.{◌-◌}
use Rattle.classes.proofs.Once.{rising}
use Rattle.classes.proofs.Lines.{walking}
use Rattle.classes.proofs.rises.Goals as goal

pub loop-at-init : goal.loop-at-init
loop-at-init c = (search walking, search walking, search rising)

pub line_from-cut-requires : goal.line_from-cut-requires
line_from-cut-requires c = search walking

pub slice_bounds-line_code-count : goal.slice_bounds-line_code-count
slice_bounds-line_code-count c = search walking

pub slice_bounds-line_code-start : goal.slice_bounds-line_code-start
slice_bounds-line_code-start c = search walking

pub slice_bounds-line_code-end : goal.slice_bounds-line_code-end
slice_bounds-line_code-end c = search walking

pub line_code-code-requires : goal.line_code-code-requires
line_code-code-requires c = search walking

pub returns-then-code-below : goal.returns-then-code-below
returns-then-code-below c = search rising

pub above-below-requires : goal.above-below-requires
above-below-requires c = search rising

pub loop-at-smaller : goal.loop-at-smaller
loop-at-smaller c = search walking

pub loop-at-preserved : goal.loop-at-preserved
loop-at-preserved c = (search walking, search walking, search rising)

pub returns : goal.returns
returns c = search rising
