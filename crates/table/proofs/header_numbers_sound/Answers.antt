use Rattle.timetable.specs.Table.{head_sound}
use Rattle.base.proofs.Laws.{tests}
use Rattle.table.proofs.header_numbers_sound.Goals as goal

pub returns-then-used-lt-HEADER_WORDS : goal.returns-then-used-lt-HEADER_WORDS
unfolding head_sound
returns-then-used-lt-HEADER_WORDS c = search tests

pub returns-then-lent-used : goal.returns-then-lent-used
unfolding head_sound
returns-then-lent-used c = search tests

pub returns-then-days-lt1 : goal.returns-then-days-lt1
unfolding head_sound
returns-then-days-lt1 c = search tests

pub returns-then-days-gt-MOST_PERIOD_DAYS : goal.returns-then-days-gt-MOST_PERIOD_DAYS
unfolding head_sound
returns-then-days-gt-MOST_PERIOD_DAYS c = search tests

pub sum-requires : goal.sum-requires
sum-requires c = search tests

pub returns-then-sum-gt-AFTER_LAST_DAY : goal.returns-then-sum-gt-AFTER_LAST_DAY
unfolding head_sound
returns-then-sum-gt-AFTER_LAST_DAY c = search (tests, ← c.sum.ensures)

pub returns-then-interchanges-lt1 : goal.returns-then-interchanges-lt1
unfolding head_sound
returns-then-interchanges-lt1 c = search (tests, ← c.sum.ensures)

pub first_service-place-requires : goal.first_service-place-requires
first_service-place-requires c = search tests

pub returns-then-first-place : goal.returns-then-first-place
unfolding head_sound
returns-then-first-place c = search (tests, ← c.first_service-place.ensures, ← c.sum.ensures)

pub returns : goal.returns
unfolding head_sound
returns c = search (tests, ← c.first_service-place.ensures, ← c.sum.ensures)
