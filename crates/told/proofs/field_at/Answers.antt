use Rattle.told.proofs.Ends.{numbered}
use Rattle.told.proofs.field_at.Goals as goal

pub number_in-requires : goal.number_in-requires
number_in-requires c = search numbered

pub returns-then-text-lt-MARK : goal.returns-then-text-lt-MARK
returns-then-text-lt-MARK c = search numbered

pub word_at-w-requires : goal.word_at-w-requires
word_at-w-requires c = search numbered

pub six_digits-requires : goal.six_digits-requires
six_digits-requires c = search numbered

pub six_number-requires : goal.six_number-requires
six_number-requires c = search numbered

pub returns-then-six_digits : goal.returns-then-six_digits
returns-then-six_digits c = search numbered

pub number_in-requires-2 : goal.number_in-requires-2
number_in-requires-2 c = search numbered

pub returns : goal.returns
returns c = search numbered
