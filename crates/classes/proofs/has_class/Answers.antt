-- `classes::has_class` meets its contract: a code is listed from the loop's place on as it is from the first place on. Assumes nothing.
use Prim.Native.Nat.{◌-◌}
use Rattle.classes.proofs.Slots.{seeking}
use Rattle.classes.proofs.has_class.Goals as goal

pub loop-at-init : goal.loop-at-init
loop-at-init c = search seeking

pub line_from-cut-requires : goal.line_from-cut-requires
line_from-cut-requires c = search seeking

pub slice_bounds-holds_code-count : goal.slice_bounds-holds_code-count
slice_bounds-holds_code-count c = search seeking

pub slice_bounds-holds_code-start : goal.slice_bounds-holds_code-start
slice_bounds-holds_code-start c = search seeking

pub slice_bounds-holds_code-end : goal.slice_bounds-holds_code-end
slice_bounds-holds_code-end c = search seeking

pub holds_code-requires : goal.holds_code-requires
holds_code-requires c = search seeking

pub returns-then-holds_code : goal.returns-then-holds_code
returns-then-holds_code c = search seeking

pub loop-at-smaller : goal.loop-at-smaller
loop-at-smaller c = search seeking

pub loop-at-preserved : goal.loop-at-preserved
loop-at-preserved c = search seeking

pub returns : goal.returns
returns c = search seeking
