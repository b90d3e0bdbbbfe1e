-- The needs of the looks at a bit field's bits, for `search clears` and `search frames`. Assumes nothing.
use mathlib.Core.Path.{◌≡◌, refl, ap, sym, ◌∙◌}
use mathlib.Core.List.{List}
use mathlib.Core.Logic.{⊎_elim}
use mathlib.Core.Bool.{Bool, true, false, not, ◌&&◌, false≢true}
use Prim.Native.Nat.{ℕ, zero, suc, ◌+◌, ◌-◌, ◌*◌, ◌/◌, ◌%◌, ◌^◌, ◌≤◌, ◌<◌}
use native.Mathlib.Nat.{add-zero, zero-div, eq-or-lt_of_le}
use native.Mathlib.Omega.{arith}
use lib.ListN.{get_or}
use lib.Pow.{pow_pos, mod-pow-add, shl_exact}
use lib.Dec.{eqb}
use borrow.Author.Tests.{lt-ltb, le-ltb, eq-eqb, ne_eqb, eqb-true}
use Rattle.base.specs.Lists.{every, some_of, upto}
use Rattle.base.proofs.Laws.{tests}
use Rattle.base.proofs.Loops.{upto_next, every-start, every-again, every-out, every-done, every-at, and-true, counting}
use Rattle.bitfield.specs.BitField.{bit_words, bit_count, most_framed, bit, runs_on, frame_bit, framed, some_day}
use Rattle.bitfield.specs.Inner.Bits.{clear_from, zero_at, no_bit}
use Rattle.bitfield.proofs.Sets.{digit, digit-two}

-- ---- the low binary digits of a word are all 0 exactly if it is divisible

zero-product : (d p : ℕ) → d < 2 → 0 < p → d * p ≡ 0 → d ≡ 0
zero-product zero p h l e = refl
zero-product (suc zero) p h l e = absurd (omega arith)
zero-product (suc (suc d)) p h l e = absurd (omega arith)

low_step : (w m : ℕ) → w % 2 ^ suc m ≡ digit w m * 2 ^ m + w % 2 ^ m
low_step w m = let e : 1 + m ≡ suc m = omega arith in ap (λ (k : ℕ). w % 2 ^ k) (sym e) ∙ mod-pow-add w 1 m

digits_low : (w m : ℕ) → ((j : ℕ) → j < m → digit w j ≡ 0) → w % 2 ^ m ≡ 0
digits_low w zero e = omega arith
digits_low w (suc m) e = low_step w m ∙ rw (e m (omega arith), digits_low w m (λ j h. e j (omega arith))) (omega arith)

low-digits : (w m j : ℕ) → w % 2 ^ m ≡ 0 → j < m → digit w j ≡ 0
low-digits w zero j e h = absurd (omega arith)
low-digits w (suc m) j e h =
    let s : digit w m * 2 ^ m + w % 2 ^ m ≡ 0 = sym (low_step w m) ∙ e in
    ⊎_elim
    (λ (q : j ≡ m). ap (digit w) q ∙ zero-product (digit w m) (2 ^ m) (digit-two w m) (pow_pos m) (omega (arith, s)))
    (λ (q : j < m). low-digits w m j (omega (arith, s)) q)
    (eq-or-lt_of_le (omega arith))

pub values-are : (k : ℕ) → 1 * 2 ^ (32 - k % 32) % 2 ^ 64 ≡ 2 ^ (32 - k % 32)
values-are k = shl_exact {a = 1} 1 (32 - k % 32) 64 (omega arith) (omega arith) ∙ omega arith

pub values-some : (k : ℕ) → 0 < 1 * 2 ^ (32 - k % 32) % 2 ^ 64
values-some k = rw (values-are k) (pow_pos (32 - k % 32))

-- ---- no bit from a place on, word by word, for `search clears`

-- bit j is not set
abbrev unset : List ℕ → ℕ → Bool
unset ws j = not (bit ws j)

unset-digit : (ws : List ℕ) (j : ℕ) → digit (get_or ws (j / 32) 0) (31 - j % 32) ≡ 0 → unset ws j ≡ true
unfolding bit
unset-digit ws j e = rw e refl

digit-unset : (ws : List ℕ) (j : ℕ) → unset ws j ≡ true → digit (get_or ws (j / 32) 0) (31 - j % 32) ≡ 0
unfolding bit
digit-unset ws j e = go (digit (get_or ws (j / 32) 0) (31 - j % 32)) (digit-two (get_or ws (j / 32) 0) (31 - j % 32)) e
  where
    go : (d : ℕ) → d < 2 → not (eqb d 1) ≡ true → d ≡ 0
    go zero h e = refl
    go (suc zero) h e = absurd (false≢true e)
    go (suc (suc d)) h e = absurd (omega arith)

clear-one : (ws : List ℕ) (k : ℕ) → k < bit_count → unset ws k ≡ true → clear_from k ws ≡ clear_from (k + 1) ws
unfolding clear_from
clear-one ws k h e = sym (every-again (unset ws) bit_count k (clear_from k ws) true h (sym e) refl refl)

-- bits that are not set are passed
clear-run : (ws : List ℕ) (d k : ℕ) → k + d ≤ bit_count → ((j : ℕ) → k ≤ j → j < k + d → unset ws j ≡ true) → clear_from k ws ≡ clear_from (k + d) ws
clear-run ws zero k h e = rw add-zero refl
clear-run ws (suc d) k h e =
    let q : k + 1 + d ≡ k + suc d = omega arith in
    clear-one ws k (omega arith) (e k (omega arith) (omega arith))
    ∙ (rw q at (clear-run ws d (k + 1) (omega arith) (λ j a b. e j (omega arith) (omega arith))))

clear_at : (ws : List ℕ) (k j : ℕ) → clear_from k ws ≡ true → k ≤ j → j < bit_count → unset ws j ≡ true
unfolding clear_from
clear_at ws k j e a b = every-at (unset ws) (bit_count - k) k j e a (omega arith)

-- p is how many values the rest of the word of bit k has
module _ (ws : List ℕ) (k p : ℕ) (r : Bool) (h : k < bit_count) (d : p ≡ 2 ^ (32 - k % 32)) (v : clear_from k ws ≡ r) where
  pub clear_next : get_or ws (k / 32) 0 % p ≡ 0 → clear_from (k / 32 * 32 + 32) ws ≡ r
  clear_next e =
      let q : k / 32 * 32 + 32 ≡ k + (32 - k % 32) = omega arith in
      let z : get_or ws (k / 32) 0 % 2 ^ (32 - k % 32) ≡ 0 = rw d at e in
      rw q (sym (clear-run ws (32 - k % 32) k (omega arith) (λ j a b.
      let s : j / 32 ≡ k / 32 = omega arith in
      unset-digit ws j (rw s (low-digits (get_or ws (k / 32) 0) (32 - k % 32) (31 - j % 32) z (omega arith))))) ∙ v)

  pub clear-out : (get_or ws (k / 32) 0 % p ≡ 0 → ⊥) → false ≡ r
  clear-out e = go (clear_from k ws) refl ∙ v
    where
      go : (t : Bool) → clear_from k ws ≡ t → false ≡ t
      go false y = refl
      go true y = absurd (e (rw d (digits_low (get_or ws (k / 32) 0) (32 - k % 32) (λ j l.
          let b : ℕ = k / 32 * 32 + (31 - j) in
          let s : b / 32 ≡ k / 32 = omega arith in
          let q : 31 - b % 32 ≡ j = omega arith in
          rw (s, q) at (digit-unset ws b (clear_at ws k b y (omega arith) (omega arith)))))))

pub clear-done : (ws : List ℕ) (k : ℕ) (r : Bool) → bit_count ≤ k → clear_from k ws ≡ r → true ≡ r
unfolding clear_from
clear-done ws k r h v = every-done (unset ws) bit_count k r h v

pub clear-less : (k : ℕ) → k < bit_count → bit_count - (k / 32 * 32 + 32) < bit_count - k
clear-less k h = omega arith

pub ruleset clears = (tests, values-are, values-some, clear_next, clear-out, clear-done, clear-less)

-- ---- the frame, for `search frames`

-- whether bit k fits the frame of n days
abbrev fits : ℕ → List ℕ → ℕ → Bool
fits n ws k = frame_bit n k (bit ws k)

every-step : (f : ℕ → Bool) (k : ℕ) → k < bit_count → every f (upto (bit_count - k) k) ≡ (f k && every f (upto (bit_count - (k + 1)) (k + 1)))
unfolding every
every-step f k h = rw (upto_next bit_count k h) refl

-- bits 2 to n + 1 fit, whatever they are
free-run : (n : ℕ) (ws : List ℕ) (d a : ℕ) → 2 ≤ a → a + d ≤ n + 2 → n ≤ most_framed → every (fits n ws) (upto (bit_count - a) a) ≡ every (fits n ws) (upto (bit_count - (a + d)) (a + d))
free-run n ws zero a h l m = rw add-zero refl
free-run n ws (suc d) a h l m =
    let e : a + 1 + d ≡ a + suc d = omega arith in
    let free : fits n ws a ≡ true = rw (le-ltb a 2 h, lt-ltb a (n + 2) (omega arith)) refl in
    sym (every-again (fits n ws) bit_count a (every (fits n ws) (upto (bit_count - a) a)) true (omega arith) (sym free) refl refl)
    ∙ (rw e at (free-run n ws d (a + 1) (omega arith) (omega arith) m))

-- behind the frame no bit is set
rest-run : (n : ℕ) (ws : List ℕ) (d k : ℕ) → n + 4 ≤ k → every (fits n ws) (upto d k) ≡ every (unset ws) (upto d k)
unfolding every upto
rest-run n ws zero k h = refl
rest-run n ws (suc d) k h = rw (le-ltb k 2 (omega arith), le-ltb k (n + 2) (omega arith), le-ltb k (n + 4) h, rest-run n ws d (k + 1) (omega arith)) refl

-- two bits: t is the first of them
module _ (a b t : Bool) (e : t ≡ a) where
  pub two-some : (r : Bool) → t ≡ true → r ≡ b → r ≡ (a && b)
  two-some r y d = d ∙ sym (rw (sym e ∙ y) refl)

  pub two_none : t ≡ false → false ≡ (a && b)
  two_none y = sym (rw (sym e ∙ y) refl)

module _ (n : ℕ) (ws : List ℕ) (m : n ≤ most_framed) where
  behind : every (fits n ws) (upto (bit_count - (n + 2)) (n + 2)) ≡ (bit ws (n + 2) && (bit ws (n + 2 + 1) && clear_from (n + 4) ws))
  unfolding clear_from
  behind =
      let q : n + 2 + 1 + 1 ≡ n + 4 = omega arith in
      let a : fits n ws (n + 2) ≡ bit ws (n + 2) = rw (le-ltb (n + 2) 2 (omega arith), le-ltb (n + 2) (n + 2) (omega arith), lt-ltb (n + 2) (n + 4) (omega arith)) refl in
      let b : fits n ws (n + 2 + 1) ≡ bit ws (n + 2 + 1) = rw (le-ltb (n + 2 + 1) 2 (omega arith), le-ltb (n + 2 + 1) (n + 2) (omega arith), lt-ltb (n + 2 + 1) (n + 4) (omega arith)) refl in
      every-step (fits n ws) (n + 2) (omega arith)
      ∙ rw (a, every-step (fits n ws) (n + 2 + 1) (omega arith), b, q, rest-run n ws (bit_count - (n + 4)) (n + 4) (omega arith)) refl

  framed_is : framed n ws ≡ (bit ws 0 && (bit ws (0 + 1) && (bit ws (n + 2) && (bit ws (n + 2 + 1) && clear_from (n + 4) ws))))
  unfolding framed
  framed_is =
      let q : 2 + n ≡ n + 2 = omega arith in
      sym (every-start (fits n ws) bit_count)
      ∙ every-step (fits n ws) 0 (omega arith)
      ∙ ap (λ (t : Bool). bit ws 0 && t) (every-step (fits n ws) 1 (omega arith) ∙ ap (λ (t : Bool). bit ws 1 && t) (free-run n ws n 2 (omega arith) (omega arith) m ∙ rw q behind))

  module _ (t : Bool) (e : t ≡ (bit ws 0 && bit ws (0 + 1))) where
    pub frame-front : t ≡ false → false ≡ framed n ws
    frame-front y = sym (framed_is ∙ go (bit ws 0) (bit ws (0 + 1)) _ (sym e ∙ y))
      where
        go : (a b c : Bool) → (a && b) ≡ false → (a && (b && c)) ≡ false
        go true true c e = absurd (false≢true (sym e))
        go true false c e = refl
        go false b c e = refl

    module _ (y : t ≡ true) (s : Bool) (d : s ≡ (bit ws (n + 2) && bit ws (n + 2 + 1))) where
      open-front : framed n ws ≡ (bit ws (n + 2) && (bit ws (n + 2 + 1) && clear_from (n + 4) ws))
      open-front = let p = and-true (bit ws 0) (bit ws (0 + 1)) (sym e ∙ y) in framed_is ∙ rw (p.0, p.1) refl

      pub frame_back : s ≡ false → false ≡ framed n ws
      frame_back z = sym (open-front ∙ go (bit ws (n + 2)) (bit ws (n + 2 + 1)) _ (sym d ∙ z))
        where
          go : (a b c : Bool) → (a && b) ≡ false → (a && (b && c)) ≡ false
          go true true c e = absurd (false≢true (sym e))
          go true false c e = refl
          go false b c e = refl

      pub frame-told : (r : Bool) → s ≡ true → r ≡ clear_from (n + 4) ws → r ≡ framed n ws
      frame-told r z v = let p = and-true (bit ws (n + 2)) (bit ws (n + 2 + 1)) (sym d ∙ z) in v ∙ sym (open-front ∙ rw (p.0, p.1) refl)

-- ---- words that are all 0

module _ (ws : List ℕ) (i : ℕ) (r : Bool) (h : i < bit_words) (v : every (zero_at ws) (upto (bit_words - i) i) ≡ r) where
  pub zero-again : get_or ws i 0 ≡ 0 → every (zero_at ws) (upto (bit_words - (i + 1)) (i + 1)) ≡ r
  zero-again e = every-again (zero_at ws) bit_words i r true h (sym (eq-eqb _ 0 e)) refl v

  pub zero-out : (get_or ws i 0 ≡ 0 → ⊥) → false ≡ r
  zero-out e = every-out (zero_at ws) bit_words i r false h (sym (ne_eqb _ 0 e)) refl v

-- have no bit
zero_bit : (ws : List ℕ) (k : ℕ) → no_bit ws ≡ true → k < bit_count → bit ws k ≡ false
unfolding bit
zero_bit ws k e h =
    let z : get_or ws (k / 32) 0 ≡ 0 = eqb-true _ 0 (every-at (zero_at ws) bit_words 0 (k / 32) e (omega arith) (omega arith)) in
    rw (z, zero-div) refl

some-none : (f : ℕ → Bool) (n k : ℕ) → ((d : ℕ) → d < k + n → f d ≡ false) → some_of f (upto n k) ≡ false
unfolding some_of upto
some-none f zero k h = refl
some-none f (suc n) k h = rw (h k (omega arith)) (some-none f n (k + 1) (λ d l. h d (omega arith)))

pub no-day : (ws : List ℕ) (n : ℕ) (t : Bool) → n ≤ most_framed → t ≡ no_bit ws → t ≡ true → false ≡ some_day n ws
no-day ws n t m e v = sym (some-none (runs_on ws) n 0 (λ d l. zero_bit ws (d + 2) (sym e ∙ v) (omega arith)))

pub ruleset frames = (tests, counting, two-some, two_none, frame-front, frame_back, frame-told, zero-again, zero-out, no-day)
