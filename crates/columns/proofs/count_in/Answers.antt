use Rattle.columns.proofs.Laws.{parts}
use Rattle.columns.proofs.count_in.Goals as goal

pub returns-then-count_of : goal.returns-then-count_of
returns-then-count_of c = search parts

pub returns : goal.returns
returns c = search parts
