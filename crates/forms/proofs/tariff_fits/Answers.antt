use Rattle.forms.specs.Inner.Usual.{tariff_fits}
use Rattle.forms.proofs.Straight.{chained}
use Rattle.forms.proofs.tariff_fits.Goals as goal

pub overflow_cast-letter_or_blank : goal.overflow_cast-letter_or_blank
overflow_cast-letter_or_blank c = search chained

pub letter_or_blank-requires : goal.letter_or_blank-requires
letter_or_blank-requires c = search chained

pub blank_at-requires : goal.blank_at-requires
blank_at-requires c = search chained

pub count_in-requires : goal.count_in-requires
count_in-requires c = search chained

pub blank_at-requires-then-count_in : goal.blank_at-requires-then-count_in
blank_at-requires-then-count_in c = search chained

pub supplement_fits-requires : goal.supplement_fits-requires
supplement_fits-requires c = search chained

pub returns-then-blank_at-2 : goal.returns-then-blank_at-2
unfolding tariff_fits
returns-then-blank_at-2 c = search chained

pub returns-else-blank_at-2 : goal.returns-else-blank_at-2
unfolding tariff_fits
returns-else-blank_at-2 c = search chained

pub returns-else-count_in : goal.returns-else-count_in
unfolding tariff_fits
returns-else-count_in c = search chained

pub returns-else-blank_at : goal.returns-else-blank_at
unfolding tariff_fits
returns-else-blank_at c = search chained

pub returns-else-letter_or_blank : goal.returns-else-letter_or_blank
unfolding tariff_fits
returns-else-letter_or_blank c = search chained
