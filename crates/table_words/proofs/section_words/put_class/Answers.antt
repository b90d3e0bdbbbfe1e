use Rattle.table_words.proofs.section_words.Puts.{record-puts}
use Rattle.table_words.proofs.section_words.put_class.Goals as goal

pub number_in-class-requires : goal.number_in-class-requires
number_in-class-requires c = search record-puts

pub offset_bounds-t-q : goal.offset_bounds-t-q
offset_bounds-t-q c = search record-puts

pub bounds-t-q : goal.bounds-t-q
bounds-t-q c = search record-puts

pub overflow_add-t : goal.overflow_add-t
overflow_add-t c = search record-puts

pub offset_bounds-t-q-2 : goal.offset_bounds-t-q-2
offset_bounds-t-q-2 c = search record-puts

pub bounds-t-q-2 : goal.bounds-t-q-2
bounds-t-q-2 c = search record-puts

pub overflow_add-result : goal.overflow_add-result
overflow_add-result c = search record-puts

pub shape_of-t : goal.shape_of-t
shape_of-t c = search record-puts

pub returns : goal.returns
returns c = search record-puts
