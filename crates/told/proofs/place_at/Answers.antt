use Rattle.told.proofs.Ends.{ending}
use Rattle.told.proofs.place_at.Goals as goal

pub range_end_in-requires : goal.range_end_in-requires
range_end_in-requires c = search ending

pub returns-then-text-lt-MARK : goal.returns-then-text-lt-MARK
returns-then-text-lt-MARK c = search ending

pub overflow_sub-a : goal.overflow_sub-a
overflow_sub-a c = search ending

pub word_at-w-requires : goal.word_at-w-requires
word_at-w-requires c = search ending

pub eight_blank-requires : goal.eight_blank-requires
eight_blank-requires c = search ending

pub returns-then-eight_blank : goal.returns-then-eight_blank
returns-then-eight_blank c = search ending

pub seven_digits-requires : goal.seven_digits-requires
seven_digits-requires c = search ending

pub seven_number-requires : goal.seven_number-requires
seven_number-requires c = search ending

pub returns-then-seven_digits : goal.returns-then-seven_digits
returns-then-seven_digits c = search ending

pub range_end_in-requires-2 : goal.range_end_in-requires-2
range_end_in-requires-2 c = search ending

pub returns : goal.returns
returns c = search ending
