use Rattle.service_words.proofs.Record.{heading}
use Rattle.service_words.proofs.head_into.Goals as goal

pub overflow_add-at : goal.overflow_add-at
overflow_add-at c = search heading

pub overflow_add-at-2 : goal.overflow_add-at-2
overflow_add-at-2 c = search heading

pub shape_of-table : goal.shape_of-table
shape_of-table c = search heading

pub returns : goal.returns
returns c = search heading
