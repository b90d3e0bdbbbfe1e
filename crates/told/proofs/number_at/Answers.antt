use Rattle.told.proofs.Ends.{numbered}
use Rattle.told.proofs.number_at.Goals as goal

pub number_in-requires : goal.number_in-requires
number_in-requires c = search numbered

pub returns-then-text-lt-MARK : goal.returns-then-text-lt-MARK
returns-then-text-lt-MARK c = search numbered

pub word_at-w-requires : goal.word_at-w-requires
word_at-w-requires c = search numbered

pub five_digits-requires : goal.five_digits-requires
five_digits-requires c = search numbered

pub five_number-requires : goal.five_number-requires
five_number-requires c = search numbered

pub returns-then-five_digits : goal.returns-then-five_digits
returns-then-five_digits c = search numbered

pub number_in-requires-2 : goal.number_in-requires-2
number_in-requires-2 c = search numbered

pub returns : goal.returns
returns c = search numbered
