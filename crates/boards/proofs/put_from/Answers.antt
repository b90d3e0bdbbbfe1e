use Rattle.boards.proofs.Needs.{puts}
use Rattle.boards.proofs.put_from.Goals as goal

pub loop-c-init : goal.loop-c-init
loop-c-init c = search puts

pub next_call-c-requires : goal.next_call-c-requires
next_call-c-requires c = search puts

pub loop-c-smaller : goal.loop-c-smaller
loop-c-smaller c = search puts

pub loop-c-preserved : goal.loop-c-preserved
loop-c-preserved c = search puts

pub shape_of-list : goal.shape_of-list
shape_of-list c = search puts

pub returns : goal.returns
returns c = search puts

pub put_call-to-requires-clause-e_in_bounds : goal.put_call-to-requires-clause-e_in_bounds
put_call-to-requires-clause-e_in_bounds c = search puts
