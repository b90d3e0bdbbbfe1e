use Rattle.told.proofs.Form.{fitting}
use Rattle.told.proofs.call_fits.Goals as goal

pub returns-then-text-lt-MARK : goal.returns-then-text-lt-MARK
returns-then-text-lt-MARK c = search fitting

pub tabled_fits-requires : goal.tabled_fits-requires
tabled_fits-requires c = search fitting

pub returns-then-text-gt-MOST_FILE_BYTES : goal.returns-then-text-gt-MOST_FILE_BYTES
returns-then-text-gt-MOST_FILE_BYTES c = search fitting

pub head_fits-requires : goal.head_fits-requires
head_fits-requires c = search fitting

pub tail_fits-requires : goal.tail_fits-requires
tail_fits-requires c = search fitting

pub returns-then-head_fits : goal.returns-then-head_fits
returns-then-head_fits c = search fitting

pub returns : goal.returns
returns c = search fitting
