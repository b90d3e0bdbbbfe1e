use Rattle.forms.proofs.Laws.{forms}
use Rattle.forms.proofs.row_form.Goals as goal

pub returns-in_err-unnamed_form : goal.returns-in_err-unnamed_form
returns-in_err-unnamed_form c = search forms

pub returns-then-fits_rule : goal.returns-then-fits_rule
returns-then-fits_rule c = search forms

pub returns : goal.returns
returns c = search forms
