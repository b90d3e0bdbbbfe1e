use Rattle.forms.proofs.Straight.{usual}
use Rattle.forms.proofs.line_form.Goals as goal

pub usual_form-requires : goal.usual_form-requires
usual_form-requires c = search usual

pub returns-then-usual_form : goal.returns-then-usual_form
returns-then-usual_form c = search usual

pub tabled_form-requires : goal.tabled_form-requires
tabled_form-requires c = search usual

pub returns : goal.returns
returns c = search usual
