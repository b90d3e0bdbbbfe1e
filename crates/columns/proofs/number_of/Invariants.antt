use mathlib.Core.Path.{◌≡◌}
use Prim.Native.Nat.{◌<◌, ◌^◌}
use lib.ListN.{drop}
use Rattle.columns.specs.Columns.{pad_to, number_from, number}
use Rattle.columns.proofs.number_of.Given as goal

abbrev pub invariant-loop-i : goal.invariant-loop-i
invariant-loop-i l = (number_from l.n (drop l.i (pad_to l.w l.p)) ≡ number (pad_to l.w l.p)) × (l.n < 10 ^ l.i)
