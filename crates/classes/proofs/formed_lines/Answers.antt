-- `classes::formed_lines` meets its contract: the lines before the loop's place have their form, and so many hold records. Assumes nothing.
use Prim.Native.Nat.{◌-◌}
use Rattle.classes.proofs.Check.{forming}
use Rattle.classes.proofs.Lines.{walking}
use Rattle.classes.proofs.formed_lines.Goals as goal

pub loop-at-init : goal.loop-at-init
loop-at-init c = (search walking, search walking, search forming, search forming)

pub line_from-cut-requires : goal.line_from-cut-requires
line_from-cut-requires c = search walking

pub slice_bounds-number_on-count : goal.slice_bounds-number_on-count
slice_bounds-number_on-count c = search walking

pub slice_bounds-number_on-start : goal.slice_bounds-number_on-start
slice_bounds-number_on-start c = search walking

pub slice_bounds-number_on-end : goal.slice_bounds-number_on-end
slice_bounds-number_on-end c = search walking

pub number_on-n-requires : goal.number_on-n-requires
number_on-n-requires c = search walking

pub is_broken-requires : goal.is_broken-requires
is_broken-requires c = search walking

pub column_of-requires : goal.column_of-requires
column_of-requires c = search walking

pub returns-then-is_broken : goal.returns-then-is_broken
returns-then-is_broken c = search forming

pub count_with-count-requires : goal.count_with-count-requires
count_with-count-requires c = search forming

pub loop-at-smaller : goal.loop-at-smaller
loop-at-smaller c = search walking

pub loop-at-preserved : goal.loop-at-preserved
loop-at-preserved c = (search walking, search walking, search forming, search forming)

pub returns : goal.returns
returns c = search forming
