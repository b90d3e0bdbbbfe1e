-- `classes::repeat_by_bytes` meets its contract: what the passes so far have found. Assumes nothing.
use Prim.Native.Nat.{◌-◌}
use Rattle.classes.proofs.Once.{all-passes}
use Rattle.classes.proofs.repeat_by_bytes.Goals as goal

pub repeat_from-pass-requires : goal.repeat_from-pass-requires
repeat_from-pass-requires c = search all-passes

pub loop-pass-init : goal.loop-pass-init
loop-pass-init c = search all-passes

pub slice_bounds-repeat_from-count : goal.slice_bounds-repeat_from-count
slice_bounds-repeat_from-count c = search all-passes

pub slice_bounds-repeat_from-start : goal.slice_bounds-repeat_from-start
slice_bounds-repeat_from-start c = search all-passes

pub slice_bounds-repeat_from-end : goal.slice_bounds-repeat_from-end
slice_bounds-repeat_from-end c = search all-passes

pub repeat_from-pass-requires-in-loop-pass : goal.repeat_from-pass-requires-in-loop-pass
repeat_from-pass-requires-in-loop-pass c = search all-passes

pub loop-pass-smaller : goal.loop-pass-smaller
loop-pass-smaller c = search all-passes

pub loop-pass-preserved : goal.loop-pass-preserved
loop-pass-preserved c = search all-passes

pub returns : goal.returns
returns c = search all-passes
