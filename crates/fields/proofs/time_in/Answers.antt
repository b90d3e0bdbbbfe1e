use Rattle.fields.specs.Fields.{time_in}
use Rattle.fields.proofs.Laws.{part-read}
use Rattle.fields.proofs.time_in.Goals as goal

pub returns : goal.returns
returns c = search (part-read time_in 6)
