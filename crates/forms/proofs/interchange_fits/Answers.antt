use Rattle.forms.specs.Inner.Usual.{interchange_fits}
use Rattle.forms.proofs.Straight.{chained}
use Rattle.forms.proofs.interchange_fits.Goals as goal

pub every_in-requires : goal.every_in-requires
every_in-requires c = search chained

pub blank_at-requires : goal.blank_at-requires
blank_at-requires c = search chained

pub count_in-requires : goal.count_in-requires
count_in-requires c = search chained

pub blank_at-requires-then-count_in : goal.blank_at-requires-then-count_in
blank_at-requires-then-count_in c = search chained

pub count_in-requires-then-blank_at-2 : goal.count_in-requires-then-blank_at-2
count_in-requires-then-blank_at-2 c = search chained

pub blank_at-requires-then-count_in-2 : goal.blank_at-requires-then-count_in-2
blank_at-requires-then-count_in-2 c = search chained

pub returns-then-count_in-2 : goal.returns-then-count_in-2
unfolding interchange_fits
returns-then-count_in-2 c = search chained depth 7

pub returns-else-count_in-2 : goal.returns-else-count_in-2
unfolding interchange_fits
returns-else-count_in-2 c = search chained depth 7

pub returns-else-blank_at-2 : goal.returns-else-blank_at-2
unfolding interchange_fits
returns-else-blank_at-2 c = search chained depth 7

pub returns-else-count_in : goal.returns-else-count_in
unfolding interchange_fits
returns-else-count_in c = search chained depth 7

pub returns-else-blank_at : goal.returns-else-blank_at
unfolding interchange_fits
returns-else-blank_at c = search chained depth 7

pub returns-else-every_in : goal.returns-else-every_in
unfolding interchange_fits
returns-else-every_in c = search chained depth 7
