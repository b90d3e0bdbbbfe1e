use Prim.Native.Nat.{◌-◌}
use Rattle.calls.proofs.Calls.{walks}
use Rattle.calls.proofs.count_calls.Goals as goal

pub bounds-w-0 : goal.bounds-w-0
bounds-w-0 c = search walks

pub bounds-w-6 : goal.bounds-w-6
bounds-w-6 c = search walks

pub bounds-w-7 : goal.bounds-w-7
bounds-w-7 c = search walks

pub loop-i-init : goal.loop-i-init
loop-i-init c = search walks

pub overflow_add-k : goal.overflow_add-k
overflow_add-k c = search walks

pub loop-i-preserved : goal.loop-i-preserved
loop-i-preserved c = search walks

pub returns : goal.returns
returns c = search walks
