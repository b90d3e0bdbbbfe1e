use Rattle.calendar.specs.Calendar.{date_in}
use Rattle.calendar.proofs.date_in.Goals as goal

pub returns : goal.returns
unfolding date_in
returns c = cc
