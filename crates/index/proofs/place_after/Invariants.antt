use mathlib.Core.Path.{◌≡◌}
use Prim.Native.Nat.{◌+◌, ◌-◌, ◌<◌}
use lib.ListN.{length}
use Rattle.lookups.specs.Lookups.{record_place, service_place}
use Rattle.index.proofs.place_after.Given as goal

abbrev pub invariant-loop : goal.invariant-loop
invariant-loop l = (l.p < length l.w + 4294967296) × (record_place l.w l.p (l.i - l.counter) ≡ service_place l.w l.i)
