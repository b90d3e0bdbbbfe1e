use mathlib.Core.Path.{◌≡◌}
use Prim.Native.Nat.{◌+◌}
use lib.ListN.{drop}
use Rattle.lines.specs.Lines.{to_lf}
use Rattle.lines.proofs.first_lf.Given as goal

-- The bytes from the loop's place on give the same end as those from `at`. Assumes nothing.
abbrev pub invariant-loop-i : goal.invariant-loop-i
invariant-loop-i l = l.i + to_lf (drop l.i l.file) ≡ l.at + to_lf (drop l.at l.file)
