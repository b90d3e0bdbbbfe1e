-- `classes::other_tariff` meets its contract: the tariff groups before the loop's place are alike. Assumes nothing.
use Prim.Native.Nat.{◌-◌}
use Rattle.classes.proofs.Check.{tariffs}
use Rattle.classes.proofs.Lines.{walking}
use Rattle.classes.proofs.other_tariff.Goals as goal

pub loop-at-init : goal.loop-at-init
loop-at-init c = (search walking, search walking, search tariffs, search tariffs)

pub line_from-cut-requires : goal.line_from-cut-requires
line_from-cut-requires c = search walking

pub slice_bounds-group_on-count : goal.slice_bounds-group_on-count
slice_bounds-group_on-count c = search walking

pub slice_bounds-group_on-start : goal.slice_bounds-group_on-start
slice_bounds-group_on-start c = search walking

pub slice_bounds-group_on-end : goal.slice_bounds-group_on-end
slice_bounds-group_on-end c = search walking

pub group_on-own-requires : goal.group_on-own-requires
group_on-own-requires c = search walking

pub other_group-requires : goal.other_group-requires
other_group-requires c = search walking

pub returns-then-other_group : goal.returns-then-other_group
returns-then-other_group c = search tariffs

pub group_with-group-requires : goal.group_with-group-requires
group_with-group-requires c = search walking

pub loop-at-smaller : goal.loop-at-smaller
loop-at-smaller c = search walking

pub loop-at-preserved : goal.loop-at-preserved
loop-at-preserved c = (search walking, search walking, search tariffs, search tariffs)

pub returns : goal.returns
returns c = search tariffs
