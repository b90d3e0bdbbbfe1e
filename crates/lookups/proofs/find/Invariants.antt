use mathlib.Core.Path.{◌≡◌}
use Prim.Native.Nat.{◌+◌, ◌-◌, ◌*◌, ◌≤◌}
use lib.ListN.{length}
use Rattle.lookups.specs.Lookups.{place_of}
use Rattle.lookups.proofs.find.Given as goal

abbrev pub invariant-loop : goal.invariant-loop
invariant-loop l = (l.p + l.size * (l.n - l.counter) ≤ length l.w) × (place_of l.w l.key l.size l.p (l.n - l.counter) ≡ place_of l.w l.key l.size l.at l.n)
