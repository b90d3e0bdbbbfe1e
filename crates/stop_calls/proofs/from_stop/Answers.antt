use Rattle.stop_calls.proofs.Needs.{stops}
use Rattle.stop_calls.proofs.from_stop.Goals as goal

pub returns-then-h-ne0 : goal.returns-then-h-ne0
returns-then-h-ne0 c = search stops

pub loop-s-smaller : goal.loop-s-smaller
loop-s-smaller c = search stops

pub loop-s-preserved : goal.loop-s-preserved
loop-s-preserved c = search stops

pub returns : goal.returns
returns c = search stops
