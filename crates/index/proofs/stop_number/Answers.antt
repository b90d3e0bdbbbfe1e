use Rattle.index.proofs.Shows.{shows-numbers}
use Rattle.index.proofs.stop_number.Goals as goal

pub bounds-w-at : goal.bounds-w-at
bounds-w-at c = search shows-numbers

pub returns : goal.returns
returns c = search shows-numbers
