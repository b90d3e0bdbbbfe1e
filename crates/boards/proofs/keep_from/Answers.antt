use Rattle.base.proofs.Laws.{tests}
use Rattle.boards.proofs.Needs.{keeps}
use Rattle.boards.proofs.keep_from.Goals as goal

pub loop-c-init : goal.loop-c-init
loop-c-init c = search keeps

pub most_of-most-requires : goal.most_of-most-requires
most_of-most-requires c = search keeps

pub overflow_add-result : goal.overflow_add-result
overflow_add-result c = search keeps

pub shape_of-kept-then-left-most : goal.shape_of-kept-then-left-most
shape_of-kept-then-left-most c = search keeps

pub returns-then-left-most : goal.returns-then-left-most
returns-then-left-most c = search keeps

pub overflow_add-result-then-kept-m : goal.overflow_add-result-then-kept-m
overflow_add-result-then-kept-m c = search keeps

pub shape_of-kept-then-kept-m : goal.shape_of-kept-then-kept-m
shape_of-kept-then-kept-m c = search keeps

pub returns-then-kept-m : goal.returns-then-kept-m
returns-then-kept-m c = search keeps

pub offset_bounds-kept-m : goal.offset_bounds-kept-m
offset_bounds-kept-m c = search keeps

pub bounds-kept-m : goal.bounds-kept-m
bounds-kept-m c = search keeps

pub one_if-m-requires : goal.one_if-m-requires
one_if-m-requires c = search keeps

pub overflow_add-m : goal.overflow_add-m
overflow_add-m c = search tests

pub next_loud-c-requires : goal.next_loud-c-requires
next_loud-c-requires c = search keeps

pub loop-c-smaller : goal.loop-c-smaller
loop-c-smaller c = search keeps

pub loop-c-preserved : goal.loop-c-preserved
loop-c-preserved c = search keeps

pub shape_of-kept : goal.shape_of-kept
shape_of-kept c = search keeps

pub returns : goal.returns
returns c = search keeps
