-- A field said by its days: `field_days` and `field-framed` (what days and what frame it has), `determined` (they are all there is to it). Assumes nothing.
use mathlib.Core.Path.{◌≡◌, refl, sym, ap, ap₂, ◌∙◌}
use mathlib.Core.List.{List, ◌∷◌, map}
use mathlib.Core.Bool.{Bool, true, false, cond, not}
use Prim.Native.Nat.{ℕ, zero, suc, ◌+◌, ◌-◌, ◌*◌, ◌/◌, ◌%◌, ◌^◌, ◌≤◌, ◌<◌}
use native.Mathlib.Nat.{pow-suc, div-one, div-div-eq-div-mul, div-lt_iff_lt-mul, one-le-pow, zero-add}
use native.Mathlib.Omega.{arith}
use lib.ListN.{length, get_or}
use lib.Dec.{eqb, ltb}
use borrow.Author.Tests.{lt-ltb, le-ltb, not-true}
use Rattle.base.specs.Lists.{upto}
use Rattle.base.proofs.Laws.{by-ltb}
use Rattle.base.proofs.Lists.{length-map-upto}
use Rattle.bitfield.specs.BitField.{bit_words, bit_count, bit, runs_on, frame_bit, framed}
use Rattle.bitfield.proofs.Sets.{digit}
use Rattle.bitfield.proofs.Meaning.{bit-of-word, bits-determine, frame-each, frame-all}
use Rattle.timetable.specs.Layout.{most_period_days}
use Rattle.day_sets.specs.DaySets.{framed_bit, bits_from, word_of, field_of}
use Rattle.day_sets.specs.Algebra.{Field}

-- ---- a list over the numbers from k on goes by what is said of each of them

pub map_same : {X : Type 0} (f g : ℕ → X) (m k : ℕ) → ((i : ℕ) → k ≤ i → i < k + m → f i ≡ g i) → map f (upto m k) ≡ map g (upto m k)
unfolding upto
map_same f g zero k e = refl
map_same f g (suc m) k e = ap₂ (λ (x : _) (xs : List _). x ∷ xs) (e k (omega arith) (omega arith)) (map_same f g m (k + 1) (λ i a b. e i (omega arith) (omega arith)))

pub get_d_map : (f : ℕ → ℕ) (m k i : ℕ) → i < m → get_or (map f (upto m k)) i 0 ≡ f (k + i)
unfolding upto
get_d_map f zero k i h = absurd (omega arith)
get_d_map f (suc m) k zero h = ap f (omega arith)
get_d_map f (suc m) k (suc i) h = get_d_map f m (k + 1) i (omega arith) ∙ ap f (omega arith)

-- ---- words of bits, the first highest

-- without the digits that follow, the number is what stood before them
bits-div : (f : ℕ → Bool) (m k x : ℕ) → bits_from x (map f (upto m k)) / 2 ^ m ≡ x
unfolding bits_from upto
bits-div f zero k x = div-one x
bits-div f (suc m) k x = rw (pow-suc 2 m, ← (div-div-eq-div-mul (bits_from (x * 2 + cond (f k) 1 0) (map f (upto m (k + 1)))) (2 ^ m) 2), bits-div f m (k + 1) (x * 2 + cond (f k) 1 0)) (go (f k))
  where
    go : (b : Bool) → (x * 2 + cond b 1 0) / 2 ≡ x
    go true = omega arith
    go false = omega arith

-- digit i, counted from the highest
bits-digit : (f : ℕ → Bool) (m k x i : ℕ) → i < m → eqb (digit (bits_from x (map f (upto m k))) (m - 1 - i)) 1 ≡ f (k + i)
unfolding bits_from upto
bits-digit f zero k x i h = absurd (omega arith)
bits-digit f (suc m) k x zero h =
    let e : suc m - 1 - 0 ≡ m = omega arith in
    let z : k + 0 ≡ k = omega arith in
    rw (e, bits-div f m (k + 1) (x * 2 + cond (f k) 1 0), z) (go (f k))
  where
    go : (b : Bool) → eqb ((x * 2 + cond b 1 0) % 2) 1 ≡ b
    go true = let z : (x * 2 + 1) % 2 ≡ 1 = omega arith in rw z
    go false = let z : (x * 2 + 0) % 2 ≡ 0 = omega arith in rw z
bits-digit f (suc m) k x (suc i) h =
    let e : suc m - 1 - suc i ≡ m - 1 - i = omega arith in
    rw e (bits-digit f m (k + 1) (x * 2 + cond (f k) 1 0) i (omega arith) ∙ ap f (omega arith))

pub bits_fit : (f : ℕ → Bool) (m k : ℕ) → bits_from 0 (map f (upto m k)) < 2 ^ m
bits_fit f m k =
    let p : 1 ≤ 2 ^ m = one-le-pow m 2 (omega arith) in
    let h : bits_from 0 (map f (upto m k)) / 2 ^ m < 1 = omega (arith, bits-div f m k 0) in
    omega (arith, (div-lt_iff_lt-mul p).0 h)

-- ---- the field: its words and its bits

module _ (n : ℕ) (days : ℕ → Bool) where
  -- bit k as the definition says it
  abbrev said : ℕ → Bool
  said k = framed_bit n k (days (k - 2))

  pub field-length : length (field_of n days) ≡ bit_words
  unfolding field_of
  field-length = length-map-upto (word_of said) bit_words 0

  field-word : (i : ℕ) → i < bit_words → get_or (field_of n days) i 0 ≡ word_of said i
  unfolding field_of
  field-word i h = get_d_map (word_of said) bit_words 0 i h ∙ ap (word_of said) (zero-add i)

  pub field_fit : (i : ℕ) → i < bit_words → get_or (field_of n days) i 0 < 2 ^ 32
  unfolding word_of
  field_fit i h = rw (field-word i h) (bits_fit said 32 (i * 32))

  pub field-bit : (k : ℕ) → k < bit_count → bit (field_of n days) k ≡ said k
  unfolding word_of
  field-bit k h =
      let e : 31 - k % 32 ≡ 32 - 1 - k % 32 = omega arith in
      let z : k / 32 * 32 + k % 32 ≡ k = omega arith in
      bit-of-word (field_of n days) k ∙ rw (field-word (k / 32) (omega arith), e) (bits-digit said 32 (k / 32 * 32) 0 (k % 32) (omega arith) ∙ ap said z)

  -- it has the days that are said of it, and a proper frame
  pub field_days : n ≤ most_period_days → (d : ℕ) → d < n → runs_on (field_of n days) d ≡ days d
  field_days m d h =
      let z : d + 2 - 2 ≡ d = omega arith in
      field-bit (d + 2) (omega arith) ∙ rw (le-ltb (d + 2) 2 (omega arith), lt-ltb (d + 2) (n + 2) (omega arith), z)

  framed-bit-fits : (k : ℕ) (b : Bool) → frame_bit n k (framed_bit n k b) ≡ true
  framed-bit-fits k b = go (ltb k 2) (ltb k (n + 2)) (ltb k (n + 4))
    where
      go : (p q r : Bool) → cond p (cond p true (cond q b (cond r true false))) (cond q true (cond r (cond p true (cond q b (cond r true false))) (not (cond p true (cond q b (cond r true false)))))) ≡ true
      go true q r = refl
      go false true r = refl
      go false false true = refl
      go false false false = refl

  pub field-framed : framed n (field_of n days) ≡ true
  field-framed = frame-all n (field_of n days) (λ k h. ap (frame_bit n k) (field-bit k h) ∙ framed-bit-fits k (days (k - 2)))

  pub field_is : Field n (field_of n days)
  field_is = record { twelve = field-length; fit = field_fit; frame = field-framed }

-- ---- days and frame are all there is to a field

module _ (n : ℕ) where
  -- a bit is that of its day, or that of every frame
  frame-bit : (k : ℕ) (b : Bool) → frame_bit n k b ≡ true → b ≡ framed_bit n k b
  frame-bit k b = go (ltb k 2) (ltb k (n + 2)) (ltb k (n + 4)) b
    where
      go : (p q r b : Bool) → cond p b (cond q true (cond r b (not b))) ≡ true → b ≡ cond p true (cond q b (cond r true false))
      go true q r b e = e
      go false true r b e = refl
      go false false true b e = e
      go false false false b e = not-true b e

  -- what is said of bit k goes by what is said of its day
  pub bit-same : (k : ℕ) (a b : Bool) → (2 ≤ k → k < n + 2 → a ≡ b) → framed_bit n k a ≡ framed_bit n k b
  bit-same k a b e =
      by-ltb (λ p. cond p true (cond (ltb k (n + 2)) a (cond (ltb k (n + 4)) true false)) ≡ cond p true (cond (ltb k (n + 2)) b (cond (ltb k (n + 4)) true false))) k 2
      (λ h. refl)
      (λ h. by-ltb (λ q. cond q a (cond (ltb k (n + 4)) true false) ≡ cond q b (cond (ltb k (n + 4)) true false)) k (n + 2) (λ l. e h l) (λ l. refl))

  -- the same days, the same field
  pub field-same : (f g : ℕ → Bool) → ((d : ℕ) → d < n → f d ≡ g d) → field_of n f ≡ field_of n g
  unfolding field_of word_of
  field-same f g e =
      map_same _ _ bit_words 0 (λ i a b.
      ap (bits_from 0) (map_same _ _ 32 (i * 32) (λ k c d.
      bit-same k (f (k - 2)) (g (k - 2)) (λ l h. e (k - 2) (omega arith)))))

  pub determined : {a b : List ℕ} → Field n a → Field n b → ((d : ℕ) → d < n → runs_on a d ≡ runs_on b d) → a ≡ b
  determined {a} {b} p q e =
      bits-determine a b p.twelve q.twelve p.fit q.fit (λ k h.
      frame-bit k (bit a k) (frame-each n a k p.frame h)
      ∙ bit-same k (bit a k) (bit b k) (λ l m. let z : k - 2 + 2 ≡ k = omega arith in rw z at (e (k - 2) (omega arith)))
      ∙ sym (frame-bit k (bit b k) (frame-each n b k q.frame h)))

  -- a field is the field of its own days
  pub own-days : {a : List ℕ} → n ≤ most_period_days → Field n a → field_of n (runs_on a) ≡ a
  own-days {a} m p = determined (field_is n (runs_on a)) p (field_days n (runs_on a) m)
