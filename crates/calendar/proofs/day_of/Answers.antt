use Rattle.calendar.specs.Calendar.{day_of, exists}
use Rattle.calendar.proofs.Laws.{dates}
use Rattle.calendar.proofs.day_of.Goals as goal

pub returns-then-y-lt1900 : goal.returns-then-y-lt1900
unfolding day_of exists
returns-then-y-lt1900 c = search dates

pub returns-then-y-gt2199 : goal.returns-then-y-gt2199
unfolding day_of exists
returns-then-y-gt2199 c = search dates

pub returns-then-m-lt1 : goal.returns-then-m-lt1
unfolding day_of exists
returns-then-m-lt1 c = search dates

pub returns-then-m-gt12 : goal.returns-then-m-gt12
unfolding day_of exists
returns-then-m-gt12 c = search dates

pub returns-then-d-lt1 : goal.returns-then-d-lt1
unfolding day_of exists
returns-then-d-lt1 c = search dates

pub returns-then-month_days-d : goal.returns-then-month_days-d
returns-then-month_days-d c = search dates

pub overflow_add-result : goal.overflow_add-result
overflow_add-result c = search dates

pub overflow_add-result-2 : goal.overflow_add-result-2
overflow_add-result-2 c = search dates

pub returns : goal.returns
returns c = search dates
