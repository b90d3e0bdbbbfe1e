use Rattle.told.proofs.Calls.{wording}
use Rattle.told.proofs.number_fits.Goals as goal

pub word_at-w-requires : goal.word_at-w-requires
word_at-w-requires c = search wording

pub five_blank-requires : goal.five_blank-requires
five_blank-requires c = search wording

pub returns-then-five_blank : goal.returns-then-five_blank
returns-then-five_blank c = search wording

pub five_digits-requires : goal.five_digits-requires
five_digits-requires c = search wording

pub returns : goal.returns
returns c = search wording
