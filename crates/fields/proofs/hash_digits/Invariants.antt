use mathlib.Core.Path.{◌≡◌}
use Prim.Native.Nat.{◌<◌, ◌^◌}
use lib.ListN.{drop}
use Rattle.columns.specs.Columns.{pad_to}
use Rattle.fields.specs.Fields.{hash_digits}
use Rattle.fields.proofs.hash_digits.Given as goal

abbrev pub invariant-loop-i : goal.invariant-loop-i
invariant-loop-i l = (hash_digits l.n (drop l.i (pad_to l.w l.p)) ≡ hash_digits 0 (drop l.from (pad_to l.w l.p))) × (l.n < 10 ^ l.i)
