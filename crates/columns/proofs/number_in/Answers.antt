use Rattle.columns.proofs.Laws.{parts}
use Rattle.columns.proofs.number_in.Goals as goal

pub returns : goal.returns
returns c = search parts
