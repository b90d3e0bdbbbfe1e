-- Twelve words that are known one by one: they are the list that has the same at each place, as that of twelve words copied; and a loop that fills them.
-- Assumes nothing.
use mathlib.Core.Path.{◌≡◌, sym, ◌∙◌}
use mathlib.Core.List.{List}
use Prim.Native.Nat.{ℕ, ◌+◌, ◌≤◌, ◌<◌}
use native.Mathlib.Omega.{arith}
use lib.ListN.{length, get_or, take, drop, length-drop, set, length-set}
use lib.Seq.{get_or-drop, get_or-take, ext_get_or, length-take-le, get_or-set_same, get_or-set_other}
use native.Mathlib.Nat.{not-suc-le-zero}
use borrow.Author.Count.{below_more}
use Rattle.bitfield.specs.BitField.{bit_words}

pub twelve-same : (w r : List ℕ) → length w ≡ bit_words → length r ≡ bit_words → ((k : ℕ) → k < bit_words → get_or r k 0 ≡ get_or w k 0) → r ≡ w
twelve-same w r m n e = ext_get_or 0 r w (n ∙ sym m) (λ k lt. e k (omega arith))

pub twelve-copied : (w r : List ℕ) (p : ℕ) → p + bit_words ≤ length w → length r ≡ bit_words → ((k : ℕ) → k < bit_words → get_or r k 0 ≡ get_or w (p + k) 0) → r ≡ take bit_words (drop p w)
twelve-copied w r p l n e =
    twelve-same (take bit_words (drop p w)) r (length-take-le bit_words (drop p w) (rw length-drop (omega arith))) n (λ k h.
    e k h ∙ sym (get_or-take bit_words (drop p w) k 0 h ∙ get_or-drop p w k 0))

-- ---- a loop that fills twelve words, the word at k with f k

-- the first i of the twelve words of r
pub record Filled (f : ℕ → ℕ) (r : List ℕ) (i : ℕ) : Type 0 where
  pub within : i ≤ bit_words
  pub twelve : length r ≡ bit_words
  pub each : (k : ℕ) → k < i → get_or r k 0 ≡ f k

pub filled_none : (f : ℕ → ℕ) (r : List ℕ) → length r ≡ bit_words → Filled f r 0
filled_none f r e = record { within = omega arith; twelve = e; each = λ k h. absurd (not-suc-le-zero h) }

pub filled_next : (f : ℕ → ℕ) (r : List ℕ) (i x : ℕ) → i < bit_words → x ≡ f i → Filled f r i → Filled f (set r i x) (i + 1)
filled_next f r i x h e v =
    record {
      within = omega arith;
      twelve = simp length-set v.twelve;
      each = below_more _ _ (λ k lt. get_or-set_other r i k x 0 (λ q. omega arith) ∙ v.each k lt) (get_or-set_same r i x 0 (omega arith) ∙ e);
    }
