use Rattle.calls_at.specs.Inner.Listed.{listed_to, listed_at, pair_words, On}
use Rattle.words.specs.Words.{write}
use Rattle.base.specs.Lists.{gathered}
use lib.ListN.{length}
use Prim.Native.Nat.{◌+◌, ◌*◌}
use mathlib.Core.Path.{◌≡◌}
use Rattle.calls_at.proofs.list_calls.Given as goal

abbrev pub invariant-loop-e : goal.invariant-loop-e
invariant-loop-e l = (length l.list ≡ length l.initial.list) × On l.w l.b l.e × (l.to + 2 * length (listed_to l.w l.b l.e) ≡ 2 * length (listed_at l.w l.b)) × (write l.list l.to (gathered pair_words (listed_to l.w l.b l.e)) ≡ write l.initial.list 0 (gathered pair_words (listed_at l.w l.b)))

abbrev pub decreases-loop-e : goal.decreases-loop-e
decreases-loop-e l = l.e
