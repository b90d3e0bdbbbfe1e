use Rattle.calls.specs.Inner.Passed.{Held}
use lib.ListN.{length}
use Prim.Native.Nat.{◌+◌, ◌-◌, ◌%◌, ◌≤◌}
use mathlib.Core.Path.{◌≡◌}
use Rattle.calls.proofs.put_pairs.Given as goal

abbrev pub invariant-loop-p : goal.invariant-loop-p
invariant-loop-p l = (length l.x ≡ length l.initial.x) × ((l.p ≤ l.even) × (l.p % 2 ≡ 0)) × Held l.w (l.k + l.p) l.x

abbrev pub decreases-loop-p : goal.decreases-loop-p
decreases-loop-p l = l.even - l.p
