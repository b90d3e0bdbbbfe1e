use Rattle.told.proofs.Ends.{ending}
use Rattle.told.proofs.detail_at.Goals as goal

pub detail_in-requires : goal.detail_in-requires
detail_in-requires c = search ending

pub returns-then-text-lt-MARK : goal.returns-then-text-lt-MARK
returns-then-text-lt-MARK c = search ending

pub overflow_sub-a : goal.overflow_sub-a
overflow_sub-a c = search ending

pub word_at-requires : goal.word_at-requires
word_at-requires c = search ending

pub six_blank-requires : goal.six_blank-requires
six_blank-requires c = search ending

pub returns-then-six_blank : goal.returns-then-six_blank
returns-then-six_blank c = search ending

pub detail_in-requires-2 : goal.detail_in-requires-2
detail_in-requires-2 c = search ending

pub returns : goal.returns
returns c = search ending
