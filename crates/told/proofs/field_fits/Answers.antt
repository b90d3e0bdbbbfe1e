use Rattle.told.specs.Inner.Marked.{field_fits}
use Rattle.told.proofs.Form.{chains}
use Rattle.told.proofs.field_fits.Goals as goal

pub blank_at-requires : goal.blank_at-requires
blank_at-requires c = search chains

pub blank_or-requires : goal.blank_or-requires
blank_or-requires c = search chains

pub returns-then-blank_or : goal.returns-then-blank_or
unfolding field_fits
returns-then-blank_or c = search chains

pub returns-else-blank_or : goal.returns-else-blank_or
unfolding field_fits
returns-else-blank_or c = search chains

pub returns-else-blank_at : goal.returns-else-blank_at
unfolding field_fits
returns-else-blank_at c = search chains
