-- `classes::marked_pass` meets its contract: the codes before the loop's place that begin with b are marked, and stand once. Assumes nothing.
use Prim.Native.Nat.{◌-◌}
use Rattle.classes.proofs.Once.{passing}
use Rattle.classes.proofs.Lines.{walking}
use Rattle.classes.proofs.marked_pass.Goals as goal

pub loop-at-init : goal.loop-at-init
loop-at-init c = (search walking, search walking, search passing)

pub line_from-cut-requires : goal.line_from-cut-requires
line_from-cut-requires c = search walking

pub slice_bounds-line_code-count : goal.slice_bounds-line_code-count
slice_bounds-line_code-count c = search walking

pub slice_bounds-line_code-start : goal.slice_bounds-line_code-start
slice_bounds-line_code-start c = search walking

pub slice_bounds-line_code-end : goal.slice_bounds-line_code-end
slice_bounds-line_code-end c = search walking

pub line_code-code-requires : goal.line_code-code-requires
line_code-code-requires c = search walking

pub repeats-requires : goal.repeats-requires
repeats-requires c = search passing

pub shape_of-marks-then-repeats : goal.shape_of-marks-then-repeats
shape_of-marks-then-repeats c = search passing

pub returns-then-repeats : goal.returns-then-repeats
returns-then-repeats c = search passing

pub next_first-next-requires : goal.next_first-next-requires
next_first-next-requires c = search walking

pub loop-at-smaller : goal.loop-at-smaller
loop-at-smaller c = search walking

pub loop-at-preserved : goal.loop-at-preserved
loop-at-preserved c = (search walking, search walking, search passing)

pub shape_of-marks : goal.shape_of-marks
shape_of-marks c = search passing

pub returns : goal.returns
returns c = search passing
