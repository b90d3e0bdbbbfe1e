use mathlib.Core.Path.{◌≡◌}
use Prim.Native.Nat.{◌+◌, ◌-◌, ◌≤◌}
use lib.ListN.{length}
use Rattle.words.specs.Words.{write}
use Rattle.index.specs.Index.{places_from, places_of}
use Rattle.indexing.specs.Inner.Onward.{Onward}
use Rattle.indexing.proofs.put_places.Given as goal

abbrev pub invariant-loop-i : goal.invariant-loop-i
invariant-loop-i l =
    (length l.x ≡ length l.initial.x) × (l.from + l.n ≤ length l.initial.x) × Onward l.w l.p (l.n - l.i)
    × (write l.x (l.from + l.i) (places_from l.w l.p (l.n - l.i)) ≡ write l.initial.x l.from (places_of l.w))
