use Rattle.forms.proofs.Laws.{forms}
use Rattle.forms.proofs.packed_row.Goals as goal

pub row_end-requires : goal.row_end-requires
row_end-requires c = search forms

pub overflow_cast-x : goal.overflow_cast-x
overflow_cast-x c = search forms

pub row_form-requires : goal.row_form-requires
row_form-requires c = search forms

pub returns : goal.returns
returns c = search forms
