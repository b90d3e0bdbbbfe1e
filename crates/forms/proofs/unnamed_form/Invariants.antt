use mathlib.Core.Path.{◌≡◌}
use Rattle.forms.specs.Form.{unnamed}
use Rattle.forms.proofs.unnamed_form.Given as goal

abbrev pub invariant-loop-i : goal.invariant-loop-i
invariant-loop-i l = unnamed l.i l.to l.line ≡ unnamed l.done l.to l.line
