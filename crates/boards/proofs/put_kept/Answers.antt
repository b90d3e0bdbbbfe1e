use Rattle.boards.proofs.Needs.{tolds}
use Rattle.boards.proofs.put_kept.Goals as goal

pub bounds-w-4 : goal.bounds-w-4
bounds-w-4 c = search tolds

pub services_from-places-requires : goal.services_from-places-requires
services_from-places-requires c = search tolds

pub loop-j-init : goal.loop-j-init
loop-j-init c = search tolds

pub offset_bounds-kept-j : goal.offset_bounds-kept-j
offset_bounds-kept-j c = search tolds

pub bounds-kept-j : goal.bounds-kept-j
bounds-kept-j c = search tolds

pub loop-j-preserved : goal.loop-j-preserved
loop-j-preserved c = search tolds

pub shape_of-list : goal.shape_of-list
shape_of-list c = search tolds

pub returns : goal.returns
returns c = search tolds

pub put_rows-to-requires-clause-e_in_bounds : goal.put_rows-to-requires-clause-e_in_bounds
put_rows-to-requires-clause-e_in_bounds c = search tolds
