use Rattle.connections.proofs.Parts.{afters}
use Rattle.connections.proofs.parts_after.Goals as goal

pub returns-in-Err : goal.returns-in-Err
returns-in-Err c = search afters

pub loop-passed-preserved : goal.loop-passed-preserved
loop-passed-preserved c = search afters

pub returns : goal.returns
returns c = search afters
