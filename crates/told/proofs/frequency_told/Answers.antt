use Rattle.told.proofs.Form.{forming}
use Rattle.told.proofs.frequency_told.Goals as goal

pub tabled_fits-requires : goal.tabled_fits-requires
tabled_fits-requires c = search forming

pub frequency_in-requires : goal.frequency_in-requires
frequency_in-requires c = search forming

pub returns-then-tabled_fits : goal.returns-then-tabled_fits
returns-then-tabled_fits c = search forming

pub broken_column-requires : goal.broken_column-requires
broken_column-requires c = search forming

pub returns : goal.returns
returns c = search forming
