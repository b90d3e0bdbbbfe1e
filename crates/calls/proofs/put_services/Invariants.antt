use Rattle.calls.specs.Inner.Passed.{Here, Held}
use lib.ListN.{length}
use Prim.Native.Nat.{◌-◌}
use mathlib.Core.Path.{◌≡◌}
use Rattle.calls.proofs.put_services.Given as goal

abbrev pub invariant-loop-i : goal.invariant-loop-i
invariant-loop-i l = (length l.x ≡ length l.initial.x) × Here l.w l.i l.at l.k × Held l.w l.k l.x
