use Rattle.day_sets.proofs.Asked.{fields}
use Rattle.day_sets.proofs.day_count.Goals as goal

pub returns : goal.returns
returns c = search fields
