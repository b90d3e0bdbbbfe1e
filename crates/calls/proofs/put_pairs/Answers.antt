use Prim.Native.Nat.{◌-◌}
use Rattle.calls.proofs.Entered.{pairs}
use Rattle.calls.proofs.put_pairs.Goals as goal

pub loop-p-init : goal.loop-p-init
loop-p-init c = search pairs

pub overflow_add-k : goal.overflow_add-k
overflow_add-k c = search pairs

pub put_call-requires : goal.put_call-requires
put_call-requires c = search pairs

pub overflow_add-p : goal.overflow_add-p
overflow_add-p c = search pairs

pub overflow_add-k-in-loop-p : goal.overflow_add-k-in-loop-p
overflow_add-k-in-loop-p c = search pairs

pub overflow_add-k-in-loop-p-2 : goal.overflow_add-k-in-loop-p-2
overflow_add-k-in-loop-p-2 c = search pairs

pub put_call-requires-in-loop-p : goal.put_call-requires-in-loop-p
put_call-requires-in-loop-p c = search pairs

pub overflow_add-p-in-loop-p : goal.overflow_add-p-in-loop-p
overflow_add-p-in-loop-p c = search pairs

pub loop-p-smaller : goal.loop-p-smaller
loop-p-smaller c = search pairs

pub loop-p-preserved : goal.loop-p-preserved
loop-p-preserved c = search pairs

pub shape_of-x : goal.shape_of-x
shape_of-x c = search pairs

pub returns : goal.returns
returns c = search pairs
