use mathlib.Core.Path.{◌≡◌}
use lib.ListN.{drop}
use Rattle.columns.specs.Columns.{pad_to}
use Rattle.fields.specs.Fields.{hash}
use Rattle.fields.proofs.hash_of.Given as goal

abbrev pub invariant-loop-i : goal.invariant-loop-i
invariant-loop-i l = hash (drop l.i (pad_to l.w l.p)) ≡ hash (pad_to l.w l.p)
