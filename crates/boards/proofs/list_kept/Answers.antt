use Rattle.boards.proofs.Needs.{lists}
use Rattle.boards.proofs.list_kept.Goals as goal

pub keep_calls-m-requires : goal.keep_calls-m-requires
keep_calls-m-requires c = search lists

pub list_counted-requires : goal.list_counted-requires
list_counted-requires c = search lists

pub shape_of-list-then-kept-m : goal.shape_of-list-then-kept-m
shape_of-list-then-kept-m c = search lists

pub shape_of-kept-then-kept-m : goal.shape_of-kept-then-kept-m
shape_of-kept-then-kept-m c = search lists

pub returns-then-kept-m : goal.returns-then-kept-m
returns-then-kept-m c = search lists

pub list_calls-requires : goal.list_calls-requires
list_calls-requires c = record { lends = (search lists, search lists); told = search lists; last_in_bounds = search lists }

pub shape_of-list : goal.shape_of-list
shape_of-list c = search lists

pub shape_of-kept : goal.shape_of-kept
shape_of-kept c = search lists

pub returns : goal.returns
returns c = search lists
