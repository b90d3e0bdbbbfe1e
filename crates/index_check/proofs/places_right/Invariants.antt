use mathlib.Core.Path.{◌≡◌}
use Prim.Native.Nat.{◌+◌}
use lib.ListN.{length, drop}
use Rattle.chain_check.specs.Tally.{same}
use Rattle.index.specs.Index.{places_from, places_of}
use Rattle.indexing.specs.Inner.Onward.{Onward}
use Rattle.index_check.proofs.places_right.Given as goal

abbrev pub invariant-loop-k : goal.invariant-loop-k
invariant-loop-k l = (l.at + l.k ≡ length l.x) × Onward l.w l.p l.k × (same (drop l.at l.x) (places_from l.w l.p l.k) ≡ same (drop l.from l.x) (places_of l.w))

abbrev pub decreases-loop-k : goal.decreases-loop-k
decreases-loop-k l = l.k
