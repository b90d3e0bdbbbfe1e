use Rattle.fields.specs.Fields.{range_end_in}
use Rattle.fields.proofs.Laws.{part-read}
use Rattle.fields.proofs.range_end_in.Goals as goal

pub returns : goal.returns
returns c = search (part-read range_end_in 7)
