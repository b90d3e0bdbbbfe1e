use Rattle.calendar.proofs.Laws.{periods}
use Rattle.calendar.proofs.period_of.Goals as goal

pub returns-then-end-start : goal.returns-then-end-start
returns-then-end-start c = search periods

pub returns-then-end-start-lt-MOST_PERIOD_DAYS : goal.returns-then-end-start-lt-MOST_PERIOD_DAYS
returns-then-end-start-lt-MOST_PERIOD_DAYS c = search periods

pub returns : goal.returns
returns c = search periods
