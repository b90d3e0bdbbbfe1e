use Rattle.range_words.proofs.Parts.{gives}
use Rattle.range_words.proofs.range_into.Goals as goal

pub returns-then-part_drafted-part_number : goal.returns-then-part_drafted-part_number
returns-then-part_drafted-part_number c = search gives

pub put_row-requires : goal.put_row-requires
put_row-requires c = search gives

pub returns : goal.returns
returns c = search gives
