use Rattle.told.proofs.Form.{forming}
use Rattle.told.proofs.call_told.Goals as goal

pub call_fits-requires : goal.call_fits-requires
call_fits-requires c = search forming

pub formed_told-requires : goal.formed_told-requires
formed_told-requires c = search forming

pub returns-then-call_fits : goal.returns-then-call_fits
returns-then-call_fits c = search forming

pub broken_column-requires : goal.broken_column-requires
broken_column-requires c = search forming

pub returns : goal.returns
returns c = search forming
