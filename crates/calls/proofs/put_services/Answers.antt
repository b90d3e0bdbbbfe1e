use Prim.Native.Nat.{◌-◌}
use Rattle.calls.proofs.Entered.{fills}
use Rattle.calls.proofs.put_services.Goals as goal

pub bounds-w-4 : goal.bounds-w-4
bounds-w-4 c = search fills

pub bounds-w-6 : goal.bounds-w-6
bounds-w-6 c = search fills

pub bounds-w-7 : goal.bounds-w-7
bounds-w-7 c = search fills

pub loop-i-init : goal.loop-i-init
loop-i-init c = search fills

pub overflow_add-k : goal.overflow_add-k
overflow_add-k c = search fills

pub loop-i-preserved : goal.loop-i-preserved
loop-i-preserved c = (search fills, search fills, search fills)

pub returns : goal.returns
returns c = search fills
