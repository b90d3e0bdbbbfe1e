-- The runs that leave a call within a span follow each other: what trying every run gives is what counting from one run to another gives. Assumes nothing.
use mathlib.Core.Path.{◌≡◌, ap, ◌∙◌, sym}
use mathlib.Core.List.{List, [], ◌∷◌, ◌++◌, map}
use mathlib.Core.Logic.{⊎_elim}
use mathlib.Core.Bool.{Bool, true, cond, ◌&&◌}
use Prim.Native.Nat.{ℕ, zero, suc, ◌+◌, ◌-◌, ◌≤◌, ◌<◌}
use native.Mathlib.Nat.{eq-or-lt_of_le}
use native.Mathlib.Decide.{dec_lt}
use native.Mathlib.Omega.{arith}
use lib.Dec.{ltb, leb}
use borrow.Author.Tests.{lt-ltb, le-ltb, le-leb, lt-leb}
use Rattle.base.specs.Lists.{gathered, upto}
use Rattle.timetable.specs.Runs.{has_run, lateness, opening_sound}
use Rattle.timetable.specs.declared.Opening.{Opening}
use Rattle.spans.specs.Spans.{runs#, first_run, end_run, span_of}
use Rattle.spans.proofs.Meaning.{has-below, span-runs, end-runs}
use Rattle.board.specs.Board.{departure_of, runs_from}

-- ---- numbers in a row that pass a test

module _ {X : Type 0} (f : ℕ → Bool) (g : ℕ → X) (low high : ℕ) where
  abbrev shown : ℕ → List X
  shown r = cond (f r) (g r ∷ []) []

  -- from one that is not below the first
  on-from : (n a : ℕ) → ((r : ℕ) → a ≤ r → r < a + n → f r ≡ (leb low r && ltb r high)) → low ≤ a → high ≤ a + n → gathered shown (upto n a) ≡ map g (upto (high - a) a)
  unfolding gathered upto
  on-from zero a h l m =
      let e : high - a ≡ 0 = omega arith in
      rw e
  on-from (suc n) a h l m = go (on-from n (a + 1) (λ r p q. h r (omega arith) (omega arith)) (omega arith) (omega arith))
    where
      here : gathered shown (upto n (a + 1)) ≡ map g (upto (high - (a + 1)) (a + 1)) → a < high → shown a ++ gathered shown (upto n (a + 1)) ≡ map g (upto (high - a) a)
      here rest q =
          let e : high - a ≡ suc (high - (a + 1)) = omega arith in
          rw (h a (omega arith) (omega arith), le-leb low a l, lt-ltb a high q, e) (ap (λ (s : List X). g a ∷ s) rest)

      past : gathered shown (upto n (a + 1)) ≡ map g (upto (high - (a + 1)) (a + 1)) → high ≤ a → shown a ++ gathered shown (upto n (a + 1)) ≡ map g (upto (high - a) a)
      past rest q =
          let e : high - a ≡ 0 = omega arith in
          let d : high - (a + 1) ≡ 0 = omega arith in
          rw (h a (omega arith) (omega arith), le-leb low a l, le-ltb a high q, e) (rw d at rest)

      go : gathered shown (upto n (a + 1)) ≡ map g (upto (high - (a + 1)) (a + 1)) → shown a ++ gathered shown (upto n (a + 1)) ≡ map g (upto (high - a) a)
      go rest = elim (dec_lt a high) [ yes q ↦ here rest q | no q ↦ past rest (omega arith) ]

  pub in_a_row : (n a : ℕ) → ((r : ℕ) → a ≤ r → r < a + n → f r ≡ (leb low r && ltb r high)) → a ≤ low → high ≤ a + n → gathered shown (upto n a) ≡ map g (upto (high - low) low)
  unfolding gathered upto
  in_a_row zero a h l m =
      let e : high - low ≡ 0 = omega arith in
      rw e
  in_a_row (suc n) a h l m =
      ⊎_elim (λ (q : a ≡ low). on-from (suc n) a h (omega arith) m ∙ ap (λ (z : ℕ). map g (upto (high - z) z)) q)
      (λ (q : a < low). rw (h a (omega arith) (omega arith), lt-leb low a q) (in_a_row n (a + 1) (λ r p s. h r (omega arith) (omega arith)) (omega arith) (omega arith))) (eq-or-lt_of_le l)

-- ---- runs

module _ (t u i : ℕ) (o : Opening) (p d : ℕ) (s : opening_sound o ≡ true) where
  pub runs-in-a-row : map (departure_of i o p d) (upto (end_run o d u - first_run o d t) (first_run o d t)) ≡ runs_from t u i o p d
  unfolding runs_from span_of
  runs-in-a-row =
      sym
      (in_a_row (λ (r : ℕ). leb t (d + lateness o r) && leb (d + lateness o r) u) (departure_of i o p d) (first_run o d t) (end_run o d u) (runs# o) 0
      (λ r a b.
      let h : has_run o r ≡ true = has-below o s r ∙ lt-ltb r (runs# o) (omega arith) in
      rw h at (span-runs o s r d t u))
      (omega arith) (omega (arith, end-runs o s d u)))
