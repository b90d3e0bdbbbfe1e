-- The needs of the loops over bits and words, a ruleset for each: `counts`, `bits`, `words`. Assumes nothing.
use mathlib.Core.Path.{◌≡◌, sym, ap, ◌∙◌}
use mathlib.Core.List.{List, map}
use mathlib.Core.Bool.{Bool, true, false, cond}
use Prim.Native.Nat.{ℕ, suc, ◌+◌, ◌-◌, ◌*◌, ◌^◌, ◌≤◌, ◌<◌}
use native.Mathlib.Nat.{pow-suc, pow-le-pow_right, one-le-pow, zero-add, add-zero}
use native.Mathlib.Omega.{arith}
use lib.ListN.{length, take, drop}
use lib.Seq.{ext_get_or, take_all}
use lib.Dec.{lit<}
use Rattle.base.specs.Lists.{count_if, upto, below}
use Rattle.base.proofs.Laws.{tests}
use Rattle.base.proofs.Lists.{length-map-upto}
use Rattle.base.proofs.Loops.{upto_next, upto-none}
use Rattle.bitfield.specs.BitField.{bit_words, bit_count, bit, runs_on}
use Rattle.bitfield.proofs.Fill.{Filled, filled_none, filled_next}
use Rattle.day_sets.specs.DaySets.{framed_bit, bits_from, word_of, field_of, bit_in}
use Rattle.day_sets.proofs.Fields.{map_same, get_d_map, bit-same}

-- x is 1 or 0 by what the test at a place said
one-most : (t : Bool) (x : ℕ) → x ≡ cond t 1 0 → x ≤ 1
one-most true x e = omega (arith, e)
one-most false x e = omega (arith, e)

-- ---- counting from one place up to another, for `search counts`

module _ (ws : List ℕ) (to k count r x : ℕ) (t : Bool) (e : x ≡ cond t 1 0) (h : k < to) where
  pub count-again : t ≡ bit ws k → count + count_if (bit ws) (upto (to - k) k) ≡ r → count + x + count_if (bit ws) (upto (to - (k + 1)) (k + 1)) ≡ r
  unfolding count_if
  count-again g v =
      let z : x ≡ cond (bit ws k) 1 0 = e ∙ ap (λ (b : Bool). cond b 1 0) g in
      omega (arith, rw (upto_next to k h, ← z) at v)

  pub count-grows : count ≤ k → count + x ≤ k + 1
  count-grows l = omega (arith, one-most t x e)

  pub count_fits : count ≤ k → to ≤ bit_count → count + x < 2 ^ 32
  count_fits l m = omega (arith, one-most t x e)

pub count-start : (ws : List ℕ) (from to : ℕ) → 0 + count_if (bit ws) (upto (to - from) from) ≡ count_if (bit ws) (upto (to - from) from)
count-start ws from to = zero-add (count_if (bit ws) (upto (to - from) from))

pub count-done : (ws : List ℕ) (to k count r : ℕ) → to ≤ k → count + count_if (bit ws) (upto (to - k) k) ≡ r → count ≡ r
unfolding count_if
count-done ws to k count r h v = sym (add-zero count) ∙ (rw (upto-none to k h) at v)

pub ruleset counts = (tests, count-start, count-again, count-grows, count_fits, count-done)

-- ---- the 32 bits of a word from place s on, for `search bits`: with some read the number w is below that power of 2

few_bits : (w s k : ℕ) → w < 2 ^ (k - s) → k < s + 32 → w < 2147483648
few_bits w s k v h =
    let l : k - s ≤ 31 = omega arith in
    let m : 2 ^ (k - s) ≤ 2 ^ 31 = pow-le-pow_right (lit< tt) l in
    omega arith

pub bits_none : (s : ℕ) → 0 < 2 ^ (s - s)
bits_none s = one-le-pow (s - s) 2 (omega arith)

pub bits-twice : (w s k : ℕ) → w < 2 ^ (k - s) → k < s + 32 → w * 2 < 2 ^ 32
bits-twice w s k v h = omega (arith, few_bits w s k v h)

module _ (w s k x : ℕ) (t : Bool) (e : x ≡ cond t 1 0) (v : w < 2 ^ (k - s)) where
  pub bits-next : k < s + 32 → w * 2 + x < 2 ^ 32
  bits-next h = omega (arith, few_bits w s k v h, one-most t x e)

  pub bits-grow : s ≤ k → w * 2 + x < 2 ^ (k + 1 - s)
  bits-grow h =
      let z : k + 1 - s ≡ suc (k - s) = omega arith in
      rw (z, pow-suc 2 (k - s)) (omega (arith, one-most t x e))

pub bits-again : (n : ℕ) (ws : List ℕ) (w k r to x : ℕ) (t : Bool) → x ≡ cond t 1 0 → t ≡ bit_in n ws k → k < to → bits_from w (map (bit_in n ws) (upto (to - k) k)) ≡ r → bits_from (w * 2 + x) (map (bit_in n ws) (upto (to - (k + 1)) (k + 1))) ≡ r
unfolding bits_from
bits-again n ws w k r to x t e g h v =
    let z : x ≡ cond (bit_in n ws k) 1 0 = e ∙ ap (λ (y : Bool). cond y 1 0) g in
    rw z (rw (upto_next to k h) at v)

pub bits-done : (n : ℕ) (ws : List ℕ) (w k r to : ℕ) → to ≤ k → bits_from w (map (bit_in n ws) (upto (to - k) k)) ≡ r → w ≡ r
unfolding bits_from
bits-done n ws w k r to h v = rw (upto-none to k h) at v

pub bits-start : (n : ℕ) (ws : List ℕ) (i : ℕ) → bits_from 0 (map (bit_in n ws) (upto (i * 32 + 32 - i * 32) (i * 32))) ≡ word_of (bit_in n ws) i
unfolding word_of
bits-start n ws i = let z : i * 32 + 32 - i * 32 ≡ 32 = omega arith in rw z

pub ruleset bits = (tests, bits_none, bits-twice, bits-next, bits-grow, bits-start, bits-again, bits-done)

-- ---- the twelve words, for `search words`

pub field-done : (n : ℕ) (ws r : List ℕ) (i : ℕ) → bit_words ≤ i → Filled (word_of (bit_in n ws)) r i → r ≡ field_of n (runs_on ws)
unfolding field_of word_of bit_in
field-done n ws r i h v =
    ext_get_or 0 r (map word (below bit_words)) (v.twelve ∙ sym (length-map-upto word bit_words 0)) (λ j l.
    let b : j < bit_words = omega (arith, v.twelve) in
    v.each j (omega arith) ∙ sym (get_d_map word bit_words 0 j b ∙ ap word (zero-add j) ∙ same j))
  where
    word : ℕ → ℕ
    word = word_of (λ (k : ℕ). framed_bit n k (runs_on ws (k - 2)))

    same : (j : ℕ) → word j ≡ word_of (bit_in n ws) j
    same j =
        ap (bits_from 0) (map_same _ _ 32 (j * 32) (λ k a b.
        bit-same n k (runs_on ws (k - 2)) (bit ws k) (λ l m. ap (bit ws) (omega arith))))

pub ruleset words = (tests, filled_none, filled_next, field-done)

-- twelve lent words are all of them
pub all-twelve : (w r : List ℕ) → length w ≡ bit_words → r ≡ take bit_words (drop 0 w) → r ≡ w
all-twelve w r h e = e ∙ take_all bit_words w (omega arith)

pub twelve-room : (w : List ℕ) → length w ≡ bit_words → 0 + bit_words ≤ length w
twelve-room w h = omega arith

pub ruleset lent-words = (tests, all-twelve, twelve-room)
