use Rattle.forms.specs.Inner.Usual.{supplement_fits}
use Rattle.forms.proofs.Straight.{chained}
use Rattle.forms.proofs.supplement_fits.Goals as goal

pub blank_at-requires : goal.blank_at-requires
blank_at-requires c = search chained

pub count_in-requires : goal.count_in-requires
count_in-requires c = search chained

pub blank_at-requires-then-count_in : goal.blank_at-requires-then-count_in
blank_at-requires-then-count_in c = search chained

pub flag_or_blank-requires : goal.flag_or_blank-requires
flag_or_blank-requires c = search chained

pub blank_at-requires-then-flag_or_blank : goal.blank_at-requires-then-flag_or_blank
blank_at-requires-then-flag_or_blank c = search chained

pub returns-then-flag_or_blank : goal.returns-then-flag_or_blank
unfolding supplement_fits
returns-then-flag_or_blank c = search chained

pub returns-else-flag_or_blank : goal.returns-else-flag_or_blank
unfolding supplement_fits
returns-else-flag_or_blank c = search chained

pub returns-else-blank_at-2 : goal.returns-else-blank_at-2
unfolding supplement_fits
returns-else-blank_at-2 c = search chained

pub returns-else-count_in : goal.returns-else-count_in
unfolding supplement_fits
returns-else-count_in c = search chained

pub returns-else-blank_at : goal.returns-else-blank_at
unfolding supplement_fits
returns-else-blank_at c = search chained
