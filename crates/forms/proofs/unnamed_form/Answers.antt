use Rattle.forms.proofs.Laws.{forms}
use Rattle.forms.proofs.unnamed_form.Goals as goal

pub returns-then-line-i : goal.returns-then-line-i
returns-then-line-i c = search forms

pub returns-then-line-i-ne32 : goal.returns-then-line-i-ne32
returns-then-line-i-ne32 c = search forms

pub loop-i-preserved : goal.loop-i-preserved
loop-i-preserved c = search forms

pub returns : goal.returns
returns c = search forms
