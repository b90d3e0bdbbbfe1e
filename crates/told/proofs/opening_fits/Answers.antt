use Rattle.told.proofs.Marked.{marked}
use Rattle.told.proofs.opening_fits.Goals as goal

pub tabled_fits-requires : goal.tabled_fits-requires
tabled_fits-requires c = search marked

pub returns-then-text-lt-MARK : goal.returns-then-text-lt-MARK
returns-then-text-lt-MARK c = search marked

pub tabled_fits-requires-then-text-gt-MOST_FILE_BYTES : goal.tabled_fits-requires-then-text-gt-MOST_FILE_BYTES
tabled_fits-requires-then-text-gt-MOST_FILE_BYTES c = search marked

pub returns-then-text-gt-MOST_FILE_BYTES : goal.returns-then-text-gt-MOST_FILE_BYTES
returns-then-text-gt-MOST_FILE_BYTES c = search marked

pub service_fits-requires : goal.service_fits-requires
service_fits-requires c = search marked

pub returns : goal.returns
returns c = search marked
