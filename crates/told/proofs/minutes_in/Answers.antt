use Rattle.told.proofs.Times.{timed}
use Rattle.told.proofs.minutes_in.Goals as goal

pub last_minutes-requires : goal.last_minutes-requires
last_minutes-requires c = search timed

pub returns : goal.returns
returns c = search timed
