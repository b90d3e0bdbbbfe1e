use Rattle.told.proofs.Calls.{tails}
use Rattle.told.proofs.tail_fits.Goals as goal

pub blank_tail-requires : goal.blank_tail-requires
blank_tail-requires c = search tails

pub column_at-requires : goal.column_at-requires
column_at-requires c = search tails

pub returns-then-blank_tail : goal.returns-then-blank_tail
returns-then-blank_tail c = search tails

pub filled_tail-requires : goal.filled_tail-requires
filled_tail-requires c = search tails

pub returns : goal.returns
returns c = search tails
