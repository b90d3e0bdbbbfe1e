use Rattle.service.proofs.schedule.Times.{timed}
use Rattle.service.proofs.schedule.times_wrong.Goals as goal

pub returns-then-not-times_fit : goal.returns-then-not-times_fit
returns-then-not-times_fit c = search timed

pub loop-i-preserved : goal.loop-i-preserved
loop-i-preserved c = search timed
