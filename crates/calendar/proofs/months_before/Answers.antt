use Rattle.calendar.proofs.Laws.{sums}
use Rattle.calendar.proofs.months_before.Goals as goal

pub returns-then-m-le2 : goal.returns-then-m-le2
returns-then-m-le2 c = search sums

pub returns-then-leap : goal.returns-then-leap
returns-then-leap c = search sums

pub returns-else-leap : goal.returns-else-leap
returns-else-leap c = search sums
