use Rattle.told.proofs.Calls.{tails}
use Rattle.told.proofs.blank_tail.Goals as goal

pub word_at-requires : goal.word_at-requires
word_at-requires c = search tails

pub eight_blank-requires : goal.eight_blank-requires
eight_blank-requires c = search tails

pub word_at-requires-then-eight_blank : goal.word_at-requires-then-eight_blank
word_at-requires-then-eight_blank c = search tails

pub eight_blank-requires-then-eight_blank : goal.eight_blank-requires-then-eight_blank
eight_blank-requires-then-eight_blank c = search tails

pub returns-then-eight_blank : goal.returns-then-eight_blank
returns-then-eight_blank c = search tails

pub returns : goal.returns
returns c = search tails
