use Rattle.chains.proofs.Fills.{heads}
use Rattle.chains.proofs.put_none.Goals as goal

pub loop-b-init : goal.loop-b-init
loop-b-init c = search heads

pub overflow_mul-m : goal.overflow_mul-m
overflow_mul-m c = search heads

pub offset_bounds-m-b : goal.offset_bounds-m-b
offset_bounds-m-b c = search heads

pub bounds-m-b : goal.bounds-m-b
bounds-m-b c = search heads

pub loop-b-preserved : goal.loop-b-preserved
loop-b-preserved c = search heads

pub shape_of-m : goal.shape_of-m
shape_of-m c = search heads

pub returns : goal.returns
returns c = search heads
