-- The needs of `pattern_at`, for `search opening`, and of `behind_opening`, for `search behind`. Assumes nothing.
use mathlib.Core.Path.{◌≡◌, refl, sym, ◌∙◌}
use mathlib.Core.List.{List, [], ◌∷◌}
use mathlib.Core.Bool.{Bool, true, false, ◌&&◌}
use Prim.Native.Nat.{ℕ, zero, suc, ◌+◌, ◌-◌, ◌≤◌, ◌<◌, ◌^◌}
use native.Mathlib.Nat.{add-zero}
use native.Mathlib.Omega.{arith}
use lib.ListN.{length, get_or, take, drop, length-drop}
use lib.Seq.{drop-drop, get_or-drop}
use lib.Dec.{eqb, ltb}
use borrow.Author.Tests.{ne_eqb, lt-ltb}
use Rattle.base.proofs.Laws.{tests, get_d_any}
use Rattle.names.specs.Grammar.{opens, closes, is_language, is_type}
use Rattle.names.specs.Names.{span, closed, body_of, body_size, has_pattern, pattern_of, pattern_size, fits}
use Rattle.names.specs.Inner.Answers.{is_of, pattern_answer, behind_answer}
use Rattle.names.specs.declared.Wanted.{Wanted}
use Rattle.names.specs.declared.PatternRead.{PatternRead}
use Rattle.std.specs.Prelude.{Option, Some, None}
use Rattle.names.specs.declared.NameByte.TheVariants.{Letter, Digit}
use Rattle.names.proofs.Spans.{span-le}

-- a byte that was read as no blank stands inside the field
pub read-inside : (f : List ℕ) (i x : ℕ) → x ≡ get_or f i 32 → (x ≡ 32 → ⊥) → i < length f
read-inside [] i x e n = absurd (n e)
read-inside (y ∷ f) zero x e n = omega arith
read-inside (y ∷ f) (suc i) x e n = omega (arith, read-inside f i x e n)

-- a byte of the text from a place on, as `byte_at` reads it; b is no blank and not 0
pub same_byte : (f : List ℕ) (i x b : ℕ) → x ≡ get_or f i 32 → ((x ≡ b) → ⊥) → ((b ≡ 0) → ⊥) → get_or f i 0 ≡ b → ⊥
same_byte [] i x b e n z k = z (sym k)
same_byte (y ∷ f) zero x b e n z k = n (e ∙ k)
same_byte (y ∷ f) (suc i) x b e n z k = same_byte f i x b e n z k

pub span-inside : (t : ℕ → Bool) (f : List ℕ) (at : ℕ) → at ≤ length f → at + span t (drop at f) ≤ length f
span-inside t f at h = omega (arith, span-le t (drop at f), length-drop at f)

and-false : (t : Bool) → (t && false) ≡ false
and-false true = refl
and-false false = refl

front : (f : List ℕ) (at : ℕ) → get_or (drop at f) 0 0 ≡ get_or f at 0
front f at = rw add-zero at (get_or-drop at f 0 0)

-- ---- behind "<": letters stand from `letters` on, digits from `digits` on, up to `close`

module _ (f : List ℕ) (letters digits : ℕ) (p : digits ≡ letters + span (is_of Letter) (drop letters f)) where
  pub digits-inside : letters ≤ length f → digits ≤ length f
  digits-inside h = omega (arith, span-inside (is_of Letter) f letters h)

  module _ (close : ℕ) (q : close ≡ digits + span (is_of Digit) (drop digits f)) where
    pub close-inside : letters ≤ length f → close ≤ length f
    close-inside h = omega (arith, span-inside (is_of Digit) f digits (digits-inside h))

    letters-at : span is_language (drop letters f) ≡ digits - letters
    letters-at = omega arith

    from-digits : drop (digits - letters) (drop letters f) ≡ drop digits f
    from-digits =
        let e : letters + (digits - letters) ≡ digits = omega arith in
        rw (drop-drop, e)

    digits-at : span is_type (drop digits f) ≡ close - digits
    digits-at = omega arith

    closed_at : closed (drop letters f) ≡ (ltb 0 (close - letters) && eqb (get_or f close 0) closes)
    unfolding closed
    closed_at =
        let e : digits - letters + (close - digits) ≡ close - letters = omega arith in
        let g : letters + (close - letters) ≡ close = omega arith in
        rw (letters-at, from-digits, digits-at, e, get_or-drop, g)

    body_at : body_of (drop letters f) ≡ record { letters = take (digits - letters) (drop letters f); digits = take (close - digits) (drop digits f) }
    unfolding body_of
    body_at = rw (letters-at, from-digits, digits-at)

    size-at : letters + body_size (drop letters f) ≡ close + 1
    unfolding body_size
    size-at = rw (letters-at, from-digits, digits-at) (omega arith)

-- y was read at `close`
pub end_fits : (f : List ℕ) (close y : ℕ) → y ≡ get_or f close 32 → y ≡ 62 → length f < 2 ^ 64 → close + 1 < 2 ^ 64
end_fits f close y e o h = omega (arith, read-inside f close y e (λ k. omega arith))

module _ (f : List ℕ) (w : Wanted) (letters digits close : ℕ) (p : digits ≡ letters + span (is_of Letter) (drop letters f)) (q : close ≡ digits + span (is_of Digit) (drop digits f)) where
  nothing-by : closed (drop letters f) ≡ false → None ≡ behind_answer w letters (drop letters f)
  unfolding behind_answer
  nothing-by h = rw h

  pub no-letters : close ≡ letters → None ≡ behind_answer w letters (drop letters f)
  no-letters k =
      let z : close - letters ≡ 0 = omega arith in
      nothing-by (closed_at f letters digits p close q ∙ rw z)

  module _ (y : ℕ) (g : y ≡ get_or f close 32) where
    pub no-closes : (y ≡ 62 → ⊥) → None ≡ behind_answer w letters (drop letters f)
    no-closes n = nothing-by (closed_at f letters digits p close q ∙ rw (ne_eqb (get_or f close 0) closes (same_byte f close y 62 g n (λ z. omega arith))) (and-false (ltb 0 (close - letters))))

    pub pattern-to : (close ≡ letters → ⊥) → y ≡ 62 → (t : Bool) → t ≡ fits w (record { letters = take (digits - letters) (drop letters f); digits = take (close - digits) (drop digits f) }) → Some (record { end = close + 1; is_fit = t }) ≡ behind_answer w letters (drop letters f)
    unfolding behind_answer
    pattern-to n c t k =
        let b : get_or f close 0 ≡ closes = get_d_any f close 0 32 (read-inside f close y g (λ z. omega arith)) ∙ sym g ∙ c in
        let h : closed (drop letters f) ≡ true = closed_at f letters digits p close q ∙ rw (b, lt-ltb 0 (close - letters) (omega arith)) in
        rw (h, size-at f letters digits p close q, body_at f letters digits p close q, k)

pub ruleset behind = (tests, digits-inside, close-inside, end_fits, no-letters, no-closes, pattern-to)

-- ---- "<" itself: x was read at `at`

module _ (f : List ℕ) (at x : ℕ) (e : x ≡ get_or f at 32) (o : x ≡ 60) where
  opens-inside : at < length f
  opens-inside = read-inside f at x e (λ k. omega arith)

  pub letters-fit : length f < 2 ^ 64 → at + 1 < 2 ^ 64
  letters-fit h = omega (arith, opens-inside)

  pub letters-inside : at + 1 ≤ length f
  letters-inside = omega (arith, opens-inside)

module _ (f : List ℕ) (w : Wanted) (at x : ℕ) (e : x ≡ get_or f at 32) where
  pub no-opens : (x ≡ 60 → ⊥) → None ≡ pattern_answer w at (drop at f)
  unfolding pattern_answer has_pattern
  no-opens n = rw (front, ne_eqb (get_or f at 0) opens (same_byte f at x 60 e n (λ z. omega arith)))

  pub pattern-behind : x ≡ 60 → (r : Option PatternRead) → r ≡ behind_answer w (at + 1) (drop (at + 1) f) → r ≡ pattern_answer w at (drop at f)
  unfolding pattern_answer has_pattern pattern_of pattern_size behind_answer
  pattern-behind o r k =
      let a : get_or f at 0 ≡ opens = get_d_any f at 0 32 (opens-inside f at x e o) ∙ sym e ∙ o in
      let s : at + suc (body_size (drop (at + 1) f)) ≡ at + 1 + body_size (drop (at + 1) f) = omega arith in
      k ∙ rw (front, a, drop-drop, s)

pub ruleset opening = (tests, letters-fit, letters-inside, no-opens, pattern-behind)
