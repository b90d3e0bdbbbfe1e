use Rattle.told.proofs.Marked.{marked}
use Rattle.told.proofs.attribute_fits.Goals as goal

pub tabled_fits-requires : goal.tabled_fits-requires
tabled_fits-requires c = search marked

pub returns-then-text-lt-MARK : goal.returns-then-text-lt-MARK
returns-then-text-lt-MARK c = search marked

pub tabled_fits-requires-then-text-gt-MOST_FILE_BYTES : goal.tabled_fits-requires-then-text-gt-MOST_FILE_BYTES
tabled_fits-requires-then-text-gt-MOST_FILE_BYTES c = search marked

pub returns-then-text-gt-MOST_FILE_BYTES : goal.returns-then-text-gt-MOST_FILE_BYTES
returns-then-text-gt-MOST_FILE_BYTES c = search marked

pub details_fit-requires : goal.details_fit-requires
details_fit-requires c = search marked

pub field_fits-requires : goal.field_fits-requires
field_fits-requires c = search marked

pub ends_fit-requires : goal.ends_fit-requires
ends_fit-requires c = search marked

pub returns : goal.returns
returns c = search marked
