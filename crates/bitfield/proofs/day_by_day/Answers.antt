use Rattle.bitfield.proofs.Frame.{frames}
use Rattle.bitfield.proofs.day_by_day.Goals as goal

pub returns-then-runs_on : goal.returns-then-runs_on
returns-then-runs_on c = search frames

pub loop-d-preserved : goal.loop-d-preserved
loop-d-preserved c = search frames

pub returns : goal.returns
returns c = search frames
