use Rattle.told.specs.Inner.Marked.{opening_fits}
use Rattle.told.proofs.Form.{chains}
use Rattle.told.proofs.service_fits.Goals as goal

pub every_in-requires : goal.every_in-requires
every_in-requires c = search chains

pub blank_at-requires : goal.blank_at-requires
blank_at-requires c = search chains

pub every_in-requires-then-blank_at : goal.every_in-requires-then-blank_at
every_in-requires-then-blank_at c = search chains

pub every_in-requires-then-every_in-2 : goal.every_in-requires-then-every_in-2
every_in-requires-then-every_in-2 c = search chains

pub repeats_fit-requires : goal.repeats_fit-requires
repeats_fit-requires c = search chains

pub returns-then-every_in-3 : goal.returns-then-every_in-3
unfolding opening_fits
returns-then-every_in-3 c = search chains depth 7

pub returns-else-every_in-3 : goal.returns-else-every_in-3
unfolding opening_fits
returns-else-every_in-3 c = search chains depth 7

pub returns-else-every_in-2 : goal.returns-else-every_in-2
unfolding opening_fits
returns-else-every_in-2 c = search chains depth 7

pub returns-else-blank_at : goal.returns-else-blank_at
unfolding opening_fits
returns-else-blank_at c = search chains depth 7

pub returns-else-every_in : goal.returns-else-every_in
unfolding opening_fits
returns-else-every_in c = search chains depth 7
