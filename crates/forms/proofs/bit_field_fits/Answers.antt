use Rattle.forms.specs.Inner.Usual.{bit_field_fits}
use Rattle.forms.proofs.Straight.{chained}
use Rattle.forms.proofs.bit_field_fits.Goals as goal

pub every_in-requires : goal.every_in-requires
every_in-requires c = search chained

pub blank_at-requires : goal.blank_at-requires
blank_at-requires c = search chained

pub all_in-requires : goal.all_in-requires
all_in-requires c = search chained

pub returns-then-blank_at : goal.returns-then-blank_at
unfolding bit_field_fits
returns-then-blank_at c = search chained

pub returns-else-blank_at : goal.returns-else-blank_at
unfolding bit_field_fits
returns-else-blank_at c = search chained

pub returns-else-every_in : goal.returns-else-every_in
unfolding bit_field_fits
returns-else-every_in c = search chained
