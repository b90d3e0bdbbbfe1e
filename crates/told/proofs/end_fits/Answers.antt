use Rattle.told.proofs.Form.{chains}
use Rattle.told.specs.Inner.Calls.{end_fits}
use Rattle.told.proofs.end_fits.Goals as goal

pub blank_at-requires : goal.blank_at-requires
blank_at-requires c = search chains

pub blank_or-requires : goal.blank_or-requires
blank_or-requires c = search chains

pub blank_at-requires-then-blank_or : goal.blank_at-requires-then-blank_or
blank_at-requires-then-blank_or c = search chains

pub every_in-requires : goal.every_in-requires
every_in-requires c = search chains

pub returns-then-blank_at-2 : goal.returns-then-blank_at-2
unfolding end_fits
returns-then-blank_at-2 c = search chains depth 7

pub returns-else-blank_at-2 : goal.returns-else-blank_at-2
unfolding end_fits
returns-else-blank_at-2 c = search chains depth 7

pub returns-else-blank_or : goal.returns-else-blank_or
unfolding end_fits
returns-else-blank_or c = search chains depth 7

pub returns-else-blank_at : goal.returns-else-blank_at
unfolding end_fits
returns-else-blank_at c = search chains depth 7
