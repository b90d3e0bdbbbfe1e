use mathlib.Core.Path.{◌≡◌}
use Prim.Native.Nat.{◌<◌, ◌^◌}
use lib.ListN.{drop}
use Rattle.columns.specs.Columns.{pad_to, number_from, number}
use Rattle.columns.proofs.at_most.Given as goal

abbrev pub invariant-loop-i : goal.invariant-loop-i
invariant-loop-i l = (l.most ≡ l.m) × (l.m < 2 ^ 32) × (number_from l.n (drop l.i (pad_to l.w l.p)) ≡ number (pad_to l.w l.p))
