use mathlib.Core.Path.{◌≡◌}
use Prim.Native.Nat.{ℕ, ◌<◌}
use lib.ListN.{length, get_or}
use Rattle.bitfield.specs.BitField.{bit_words}
use Rattle.bitfield.proofs.words_by.Given as goal

abbrev pub invariant-loop-i : goal.invariant-loop-i
invariant-loop-i g l = (length l.r ≡ bit_words) × ((k : ℕ) → k < l.i → goal.F-post g l.f k (get_or l.r k 0))
