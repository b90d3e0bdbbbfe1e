use Rattle.table_words.proofs.Laws.{heading}
use Rattle.table_words.proofs.put_header.Goals as goal

pub shape_of-t : goal.shape_of-t
shape_of-t c = search heading

pub returns : goal.returns
returns c = search heading
