use Rattle.told.proofs.Calls.{wording}
use Rattle.told.proofs.administration_fits.Goals as goal

pub word_at-w-requires : goal.word_at-w-requires
word_at-w-requires c = search wording

pub six_blank-requires : goal.six_blank-requires
six_blank-requires c = search wording

pub returns-then-six_blank : goal.returns-then-six_blank
returns-then-six_blank c = search wording

pub six_filled-requires : goal.six_filled-requires
six_filled-requires c = search wording

pub returns : goal.returns
returns c = search wording
