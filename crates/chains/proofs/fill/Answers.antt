use Rattle.chains.proofs.Fills.{fills}
use Rattle.chains.proofs.fill.Goals as goal

pub put_none-requires : goal.put_none-requires
put_none-requires c = search fills

pub loop-k-init : goal.loop-k-init
loop-k-init c = search fills

pub put-requires : goal.put-requires
put-requires c = search fills

pub loop-k-preserved : goal.loop-k-preserved
loop-k-preserved c = search fills

pub shape_of-m : goal.shape_of-m
shape_of-m c = search fills

pub returns : goal.returns
returns c = search fills
