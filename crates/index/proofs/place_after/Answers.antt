use native.Mathlib.Omega.{arith}
use Rattle.index.proofs.Records.{hops}
use Rattle.index.proofs.place_after.Goals as goal

pub bounds-w-7 : goal.bounds-w-7
bounds-w-7 c = search hops

pub returns-then-w-p : goal.returns-then-w-p
returns-then-w-p c = search hops

pub loop-preserved : goal.loop-preserved
loop-preserved c = (omega arith, search hops)

pub returns : goal.returns
returns c = search hops
