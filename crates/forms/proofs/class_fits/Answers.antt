use Rattle.forms.specs.Inner.Usual.{class_fits}
use Rattle.forms.proofs.Straight.{chained}
use Rattle.forms.proofs.class_fits.Goals as goal

pub first_filled-requires : goal.first_filled-requires
first_filled-requires c = search chained

pub blank_at-requires : goal.blank_at-requires
blank_at-requires c = search chained

pub count_in-requires : goal.count_in-requires
count_in-requires c = search chained

pub blank_at-requires-then-count_in : goal.blank_at-requires-then-count_in
blank_at-requires-then-count_in c = search chained

pub tariff_fits-requires : goal.tariff_fits-requires
tariff_fits-requires c = search chained

pub returns-then-blank_at-2 : goal.returns-then-blank_at-2
unfolding class_fits
returns-then-blank_at-2 c = search chained

pub returns-else-blank_at-2 : goal.returns-else-blank_at-2
unfolding class_fits
returns-else-blank_at-2 c = search chained

pub returns-else-count_in : goal.returns-else-count_in
unfolding class_fits
returns-else-count_in c = search chained

pub returns-else-blank_at : goal.returns-else-blank_at
unfolding class_fits
returns-else-blank_at c = search chained

pub returns-else-first_filled : goal.returns-else-first_filled
unfolding class_fits
returns-else-first_filled c = search chained
