use Rattle.forms.specs.Inner.Usual.{stop_fits}
use Rattle.forms.proofs.Straight.{chained}
use Rattle.forms.proofs.stop_fits.Goals as goal

pub every_in-requires : goal.every_in-requires
every_in-requires c = search chained

pub blank_at-requires : goal.blank_at-requires
blank_at-requires c = search chained

pub blank_at-requires-then-blank_at : goal.blank_at-requires-then-blank_at
blank_at-requires-then-blank_at c = search chained

pub is_filled-requires : goal.is_filled-requires
is_filled-requires c = search chained

pub returns-then-blank_at-2 : goal.returns-then-blank_at-2
unfolding stop_fits
returns-then-blank_at-2 c = search chained

pub returns-else-blank_at-2 : goal.returns-else-blank_at-2
unfolding stop_fits
returns-else-blank_at-2 c = search chained

pub returns-else-blank_at : goal.returns-else-blank_at
unfolding stop_fits
returns-else-blank_at c = search chained

pub returns-else-every_in : goal.returns-else-every_in
unfolding stop_fits
returns-else-every_in c = search chained
