use Rattle.base.proofs.Laws.{tests}
use Rattle.table_words.proofs.Laws.{joining}
use Rattle.table_words.proofs.put_table.Goals as goal

pub put_header-requires : goal.put_header-requires
put_header-requires c = search joining

pub put_sections-services-requires : goal.put_sections-services-requires
put_sections-services-requires c = search joining

pub shape_of-calls : goal.shape_of-calls
shape_of-calls c = search joining

pub shape_of-ranges : goal.shape_of-ranges
shape_of-ranges c = search joining

pub shape_of-t : goal.shape_of-t
shape_of-t c = search joining

pub returns : goal.returns
returns c = search joining
