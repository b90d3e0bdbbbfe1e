use Rattle.table_words.proofs.section_words.Puts.{record-puts}
use Rattle.table_words.proofs.section_words.put_bit_field.Goals as goal

pub offset_bounds-t-q : goal.offset_bounds-t-q
offset_bounds-t-q c = search record-puts

pub bounds-t-q : goal.bounds-t-q
bounds-t-q c = search record-puts

pub overflow_add-q : goal.overflow_add-q
overflow_add-q c = search record-puts

pub overflow_add-result : goal.overflow_add-result
overflow_add-result c = search record-puts

pub shape_of-t : goal.shape_of-t
shape_of-t c = search record-puts

pub returns : goal.returns
returns c = search record-puts
