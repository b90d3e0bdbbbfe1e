use mathlib.Core.Path.{◌≡◌}
use lib.ListN.{drop}
use Rattle.columns.specs.Columns.{pad_to, count}
use Rattle.columns.proofs.count_of.Given as goal

abbrev pub invariant-loop-i : goal.invariant-loop-i
invariant-loop-i l = count (drop l.i (pad_to l.w l.p)) ≡ count (pad_to l.w l.p)
