use mathlib.Core.Path.{◌≡◌}
use Prim.Native.Nat.{◌≤◌}
use lib.ListN.{drop}
use lib.Dec.{leb}
use Rattle.lines.specs.Lines.{to_lf}
use Rattle.lines.proofs.no_lf.Given as goal

-- Whether there is an LF among the bytes that are tested. Assumes nothing.
abbrev pub invariant-loop-i : goal.invariant-loop-i
invariant-loop-i l = (l.i ≤ l.n) × (l.none ≡ leb l.i (to_lf (drop l.at l.file)))
