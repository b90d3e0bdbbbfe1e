use Rattle.columns.proofs.Laws.{parts}
use Rattle.columns.proofs.all_in.Goals as goal

pub returns-then-p-w : goal.returns-then-p-w
returns-then-p-w c = search parts

pub returns : goal.returns
returns c = search parts
