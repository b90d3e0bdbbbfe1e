use Rattle.told.proofs.Calls.{heads}
use Rattle.told.proofs.head_fits.Goals as goal

pub word_at-requires : goal.word_at-requires
word_at-requires c = search heads

pub seven_digits_blank-requires : goal.seven_digits_blank-requires
seven_digits_blank-requires c = search heads

pub word_at-requires-then-seven_digits_blank : goal.word_at-requires-then-seven_digits_blank
word_at-requires-then-seven_digits_blank c = search heads

pub time_fits-requires : goal.time_fits-requires
time_fits-requires c = search heads

pub blank_at-requires : goal.blank_at-requires
blank_at-requires c = search heads

pub word_at-requires-then-blank_at : goal.word_at-requires-then-blank_at
word_at-requires-then-blank_at c = search heads

pub time_fits-requires-then-blank_at : goal.time_fits-requires-then-blank_at
time_fits-requires-then-blank_at c = search heads

pub returns-then-blank_at : goal.returns-then-blank_at
returns-then-blank_at c = search heads

pub returns-else-blank_at : goal.returns-else-blank_at
returns-else-blank_at c = search heads

pub returns-else-time_fits : goal.returns-else-time_fits
returns-else-time_fits c = search heads

pub returns-else-seven_digits_blank : goal.returns-else-seven_digits_blank
returns-else-seven_digits_blank c = search heads
