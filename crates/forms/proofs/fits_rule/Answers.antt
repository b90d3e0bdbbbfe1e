use Rattle.base.proofs.Laws.{tests}
use Rattle.forms.specs.Inner.Rows.{rule_of}
use Rattle.forms.proofs.Rules.{time-rule, end-rule}
use Rattle.forms.proofs.fits_rule.Goals as goal

pub every_in-requires : goal.every_in-requires
every_in-requires c = search tests

pub blank_or-requires : goal.blank_or-requires
blank_or-requires c = search tests

pub all_in-requires : goal.all_in-requires
all_in-requires c = search tests

pub every_in-requires-in-4 : goal.every_in-requires-in-4
every_in-requires-in-4 c = search tests

pub first_filled-requires : goal.first_filled-requires
first_filled-requires c = search tests

pub every_in-requires-in-6 : goal.every_in-requires-in-6
every_in-requires-in-6 c = search tests

pub blank_or-requires-in-7 : goal.blank_or-requires-in-7
blank_or-requires-in-7 c = search tests

pub count_in-requires : goal.count_in-requires
count_in-requires c = search tests

pub fits_date-requires : goal.fits_date-requires
fits_date-requires c = search tests

pub time_in-requires : goal.time_in-requires
time_in-requires c = search tests

pub is_time-requires : goal.is_time-requires
is_time-requires c = search tests

pub range_end_in-requires : goal.range_end_in-requires
range_end_in-requires c = search tests

pub is_end-requires : goal.is_end-requires
is_end-requires c = search tests

pub fits_detail-requires : goal.fits_detail-requires
fits_detail-requires c = search tests

pub fits_offset-requires : goal.fits_offset-requires
fits_offset-requires c = search tests

pub overflow_cast-m : goal.overflow_cast-m
overflow_cast-m c = search tests

pub blank_or-requires-in-14 : goal.blank_or-requires-in-14
blank_or-requires-in-14 c = search tests

pub fits_from_one-requires : goal.fits_from_one-requires
fits_from_one-requires c = search tests

pub letter_or_blank-requires : goal.letter_or_blank-requires
letter_or_blank-requires c = search tests

pub flag_or_blank-requires : goal.flag_or_blank-requires
flag_or_blank-requires c = search tests

pub overflow_cast-m-in_default : goal.overflow_cast-m-in_default
overflow_cast-m-in_default c = search tests

pub every_in-requires-in_default : goal.every_in-requires-in_default
every_in-requires-in_default c = search tests

pub returns-in_default : goal.returns-in_default
unfolding rule_of
returns-in_default c = search tests

pub returns-in-0 : goal.returns-in-0
unfolding rule_of
returns-in-0 c = search (tests, c.in-0.is)

pub returns-in-1 : goal.returns-in-1
unfolding rule_of
returns-in-1 c = search (tests, c.in-1.is)

pub returns-in-2 : goal.returns-in-2
unfolding rule_of
returns-in-2 c = search (tests, c.in-2.is)

pub returns-in-3 : goal.returns-in-3
unfolding rule_of
returns-in-3 c = search (tests, c.in-3.is)

pub returns-in-4 : goal.returns-in-4
unfolding rule_of
returns-in-4 c = search (tests, c.in-4.is, ← c.every_in-in-4.ensures)

pub returns-in-5 : goal.returns-in-5
unfolding rule_of
returns-in-5 c = search (tests, c.in-5.is)

pub returns-in-6 : goal.returns-in-6
unfolding rule_of
returns-in-6 c = search (tests, c.in-6.is)

pub returns-in-7 : goal.returns-in-7
unfolding rule_of
returns-in-7 c = search (tests, c.in-7.is)

pub returns-in-8 : goal.returns-in-8
unfolding rule_of
returns-in-8 c = search (tests, c.in-8.is)

pub returns-in-9 : goal.returns-in-9
unfolding rule_of
returns-in-9 c = search (tests, c.in-9.is)

pub returns-in-10 : goal.returns-in-10
unfolding rule_of
returns-in-10 c = search (time-rule, c.in-10.is)

pub returns-in-11 : goal.returns-in-11
unfolding rule_of
returns-in-11 c = search (end-rule, c.in-11.is)

pub returns-in-12 : goal.returns-in-12
unfolding rule_of
returns-in-12 c = search (tests, c.in-12.is)

pub returns-in-13 : goal.returns-in-13
unfolding rule_of
returns-in-13 c = search (tests, c.in-13.is)

pub returns-in-14 : goal.returns-in-14
unfolding rule_of
returns-in-14 c = search (tests, c.in-14.is)

pub returns-in-15 : goal.returns-in-15
unfolding rule_of
returns-in-15 c = search (tests, c.in-15.is)

pub returns-in-16 : goal.returns-in-16
unfolding rule_of
returns-in-16 c = search (tests, c.in-16.is)

pub returns-in-17 : goal.returns-in-17
unfolding rule_of
returns-in-17 c = search (tests, c.in-17.is)
