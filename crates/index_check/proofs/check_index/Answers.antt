use Rattle.index_check.proofs.Whole.{any}
use Rattle.index_check.proofs.check_index.Goals as goal

pub returns-in_default : goal.returns-in_default
returns-in_default c = search any

pub is_index-requires : goal.is_index-requires
is_index-requires c = search any

pub returns-then-not-is_index : goal.returns-then-not-is_index
returns-then-not-is_index c = search any

pub returns : goal.returns
returns c = search any
