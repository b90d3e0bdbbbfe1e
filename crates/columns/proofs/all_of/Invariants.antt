use mathlib.Core.Path.{◌≡◌}
use mathlib.Core.Bool.{◌&&◌}
use lib.ListN.{drop}
use Rattle.base.specs.Lists.{every}
use Rattle.columns.specs.Columns.{is_of}
use Rattle.columns.proofs.all_of.Given as goal

abbrev pub invariant-loop-i : goal.invariant-loop-i
invariant-loop-i l = (l.all && every (is_of l.class) (drop l.i l.p)) ≡ every (is_of l.class) l.p
