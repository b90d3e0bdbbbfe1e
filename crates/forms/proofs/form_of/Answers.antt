use mathlib.Core.Path.{refl}
use Rattle.forms.proofs.Laws.{forms, form-again}
use Rattle.forms.proofs.form_of.Goals as goal

pub returns-in_err-packed_row : goal.returns-in_err-packed_row
returns-in_err-packed_row c = search forms

pub loop-x-preserved : goal.loop-x-preserved
loop-x-preserved c = form-again _ _ _ _ _ c.loop-x.invariant _ _ c.loop-x-test.true refl c.packed_row.ensures _ c.row_end-done.ensures c.in_ok-packed_row.was

pub returns : goal.returns
returns c = search forms
