use Rattle.base.proofs.Laws.{tests}
use Rattle.load.proofs.Helper.{index-fits, index-after}
use Rattle.load.proofs.classes_in.Goals as goal

pub returns-clause-index_after : goal.returns-clause-index_after
returns-clause-index_after c = search index-after
