use Rattle.calendar.proofs.Laws.{sums}
use Rattle.calendar.proofs.years_before.Goals as goal

pub returns : goal.returns
returns c = search sums
