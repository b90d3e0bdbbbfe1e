use Rattle.table_words.proofs.section_words.Puts.{record-puts}
use Rattle.table_words.proofs.section_words.put_stop.Goals as goal

pub overflow_add-start : goal.overflow_add-start
overflow_add-start c = search record-puts

pub overflow_cast-start : goal.overflow_cast-start
overflow_cast-start c = search record-puts

pub name_length-requires : goal.name_length-requires
name_length-requires c = search record-puts

pub overflow_add-result : goal.overflow_add-result
overflow_add-result c = search record-puts

pub shape_of-t : goal.shape_of-t
shape_of-t c = search record-puts

pub returns : goal.returns
returns c = search record-puts
