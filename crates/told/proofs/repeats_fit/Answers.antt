use Rattle.told.specs.Inner.Marked.{repeats_fit}
use Rattle.told.proofs.Form.{chains}
use Rattle.told.proofs.repeats_fit.Goals as goal

pub blank_or-requires : goal.blank_or-requires
blank_or-requires c = search chains

pub blank_at-requires : goal.blank_at-requires
blank_at-requires c = search chains

pub fits_offset-requires : goal.fits_offset-requires
fits_offset-requires c = search chains

pub blank_to_end-requires : goal.blank_to_end-requires
blank_to_end-requires c = search chains

pub returns-then-fits_offset : goal.returns-then-fits_offset
unfolding repeats_fit
returns-then-fits_offset c = search chains depth 7

pub returns-else-fits_offset : goal.returns-else-fits_offset
unfolding repeats_fit
returns-else-fits_offset c = search chains depth 7

pub returns-else-blank_at : goal.returns-else-blank_at
unfolding repeats_fit
returns-else-blank_at c = search chains depth 7

pub returns-else-blank_or : goal.returns-else-blank_or
unfolding repeats_fit
returns-else-blank_or c = search chains depth 7
