use Rattle.told.proofs.Form.{forming}
use Rattle.told.proofs.opening_told.Goals as goal

pub opening_fits-requires : goal.opening_fits-requires
opening_fits-requires c = search forming

pub opening_in-requires : goal.opening_in-requires
opening_in-requires c = search forming

pub returns-then-opening_fits : goal.returns-then-opening_fits
returns-then-opening_fits c = search forming

pub broken_column-requires : goal.broken_column-requires
broken_column-requires c = search forming

pub returns : goal.returns
returns c = search forming
