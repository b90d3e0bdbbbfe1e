use Rattle.range_words.proofs.Parts.{puts}
use Rattle.range_words.proofs.part_into.Goals as goal

pub range_into-to-requires-clause-range_in_bounds : goal.range_into-to-requires-clause-range_in_bounds
range_into-to-requires-clause-range_in_bounds c = search puts

pub loop-i-preserved : goal.loop-i-preserved
loop-i-preserved c = (search puts, search puts)

pub returns : goal.returns
returns c = search puts
