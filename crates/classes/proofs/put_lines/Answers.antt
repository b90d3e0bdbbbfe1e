-- `classes::put_lines` meets its contract: the lines before the loop's place are in the index. Assumes nothing.
use Prim.Native.Nat.{◌-◌}
use Rattle.classes.proofs.Slots.{filling}
use Rattle.classes.proofs.Lines.{walking}
use Rattle.classes.proofs.put_lines.Goals as goal

pub loop-at-init : goal.loop-at-init
loop-at-init c = (search walking, search walking, search filling, search filling)

pub line_from-cut-requires : goal.line_from-cut-requires
line_from-cut-requires c = search walking

pub slice_bounds-put_line-count : goal.slice_bounds-put_line-count
slice_bounds-put_line-count c = search walking

pub slice_bounds-put_line-start : goal.slice_bounds-put_line-start
slice_bounds-put_line-start c = search walking

pub slice_bounds-put_line-end : goal.slice_bounds-put_line-end
slice_bounds-put_line-end c = search walking

pub put_line-put-requires : goal.put_line-put-requires
put_line-put-requires c = search filling

pub shape_of-index-then-not-put : goal.shape_of-index-then-not-put
shape_of-index-then-not-put c = search filling

pub returns-then-not-put : goal.returns-then-not-put
returns-then-not-put c = search filling

pub loop-at-smaller : goal.loop-at-smaller
loop-at-smaller c = search walking

pub loop-at-preserved : goal.loop-at-preserved
loop-at-preserved c = (search walking, search walking, search filling, search filling)

pub shape_of-index : goal.shape_of-index
shape_of-index c = search filling

pub returns : goal.returns
returns c = search filling
