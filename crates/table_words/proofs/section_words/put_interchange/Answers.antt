use Rattle.table_words.proofs.section_words.Puts.{record-puts}
use Rattle.table_words.proofs.section_words.put_interchange.Goals as goal

pub number_in-requires : goal.number_in-requires
number_in-requires c = search record-puts

pub number_in-requires-2 : goal.number_in-requires-2
number_in-requires-2 c = search record-puts

pub overflow_add-result : goal.overflow_add-result
overflow_add-result c = search record-puts

pub shape_of-t : goal.shape_of-t
shape_of-t c = search record-puts

pub returns : goal.returns
returns c = search record-puts
