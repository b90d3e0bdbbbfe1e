use Rattle.calls.proofs.Entered.{routes}
use Rattle.calls.proofs.put_route.Goals as goal

pub overflow_sub-even : goal.overflow_sub-even
overflow_sub-even c = search routes

pub overflow_add-k : goal.overflow_add-k
overflow_add-k c = search routes

pub put_call-requires : goal.put_call-requires
put_call-requires c = search routes

pub shape_of-x-then-even-c : goal.shape_of-x-then-even-c
shape_of-x-then-even-c c = search routes

pub returns-then-even-c : goal.returns-then-even-c
returns-then-even-c c = search routes

pub shape_of-x-else-even-c : goal.shape_of-x-else-even-c
shape_of-x-else-even-c c = search routes

pub returns-else-even-c : goal.returns-else-even-c
returns-else-even-c c = search routes
