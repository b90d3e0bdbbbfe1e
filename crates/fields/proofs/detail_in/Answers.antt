use Rattle.fields.specs.Fields.{detail_in}
use Rattle.fields.proofs.Laws.{part-read}
use Rattle.fields.proofs.detail_in.Goals as goal

pub returns : goal.returns
returns c = search (part-read detail_in 6)
