use Rattle.classes.proofs.Slots.{indexing}
use Rattle.classes.proofs.fill_index.Goals as goal

pub clear-requires : goal.clear-requires
clear-requires c = search indexing

pub put_lines-rest-requires : goal.put_lines-rest-requires
put_lines-rest-requires c = search indexing

pub overflow_cast-index : goal.overflow_cast-index
overflow_cast-index c = search indexing

pub bounds-index-0 : goal.bounds-index-0
bounds-index-0 c = search indexing

pub shape_of-index : goal.shape_of-index
shape_of-index c = search indexing

pub returns : goal.returns
returns c = search indexing
