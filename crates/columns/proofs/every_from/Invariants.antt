use mathlib.Core.Path.{◌≡◌}
use lib.ListN.{drop}
use Rattle.base.specs.Lists.{every}
use Rattle.columns.specs.Columns.{pad_to, is_of}
use Rattle.columns.proofs.every_from.Given as goal

abbrev pub invariant-loop-i : goal.invariant-loop-i
invariant-loop-i l = every (is_of l.class) (drop l.i (pad_to l.w l.p)) ≡ every (is_of l.class) (drop l.from (pad_to l.w l.p))
