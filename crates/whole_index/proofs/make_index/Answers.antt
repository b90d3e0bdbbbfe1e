use Rattle.whole_index.proofs.Answers.{any}
use Rattle.whole_index.proofs.make_index.Goals as goal

pub returns-in_default : goal.returns-in_default
returns-in_default c = search any

pub make-requires : goal.make-requires
make-requires c = search any

pub returns : goal.returns
returns c = search any
