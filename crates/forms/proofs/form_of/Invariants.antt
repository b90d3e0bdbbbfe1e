use mathlib.Core.Path.{◌≡◌}
use lib.ListN.{drop}
use Rattle.forms.specs.Form.{form_from}
use Rattle.forms.specs.Inner.Rows.{rows_of}
use Rattle.forms.proofs.form_of.Given as goal

abbrev pub invariant-loop-x : goal.invariant-loop-x
invariant-loop-x l = form_from l.done (rows_of (drop l.x-index l.table)) l.line ≡ form_from 0 (rows_of l.table) l.line
