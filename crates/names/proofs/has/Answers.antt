use Rattle.names.proofs.Laws.{has-is}
use Rattle.names.proofs.has.Goals as goal

pub returns : goal.returns
returns c = has-is _ _ _ c.contains.ensures.value
