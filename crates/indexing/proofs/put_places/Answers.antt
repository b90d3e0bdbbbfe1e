use native.Mathlib.Omega.{arith}
use lib.ListN.{length-set}
use Rattle.indexing.proofs.Places.{places}
use Rattle.indexing.proofs.put_places.Goals as goal

pub bounds-w-6 : goal.bounds-w-6
bounds-w-6 c = search places

pub bounds-w-7 : goal.bounds-w-7
bounds-w-7 c = search places

pub loop-i-init : goal.loop-i-init
loop-i-init c = search places

pub loop-i-preserved : goal.loop-i-preserved
loop-i-preserved c = (simp length-set (omega arith), omega arith, search places, search places)

pub returns : goal.returns
returns c = search places
