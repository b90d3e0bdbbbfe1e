use Rattle.calls_at.proofs.Needs.{lists}
use Rattle.calls_at.proofs.list_calls.Goals as goal

pub last_at-e-requires : goal.last_at-e-requires
last_at-e-requires c = search lists

pub loop-e-init : goal.loop-e-init
loop-e-init c = search lists

pub entry_of-c-requires : goal.entry_of-c-requires
entry_of-c-requires c = search lists

pub put_pair-requires : goal.put_pair-requires
put_pair-requires c = search lists

pub overflow_add-to : goal.overflow_add-to
overflow_add-to c = search lists

pub loop-e-smaller : goal.loop-e-smaller
loop-e-smaller c = search lists

pub loop-e-preserved : goal.loop-e-preserved
loop-e-preserved c = (search lists, search lists, search lists, search lists)

pub shape_of-list : goal.shape_of-list
shape_of-list c = search lists

pub returns : goal.returns
returns c = search lists
