-- Rows of words, and what each gives, written one after the other. Assumes nothing.
use mathlib.Core.Path.{◌≡◌, refl, sym, ap, ◌∙◌}
use mathlib.Core.List.{List, [], ◌++◌}
use Prim.Native.Nat.{ℕ, ◌+◌, ◌-◌, ◌*◌, ◌≤◌, ◌<◌}
use native.Mathlib.Nat.{sub-zero, mul-zero}
use native.Mathlib.Omega.{arith}
use lib.ListN.{length, drop, length-append}
use Rattle.base.specs.Lists.{gathered}
use Rattle.words.specs.Words.{write}
use Rattle.words.proofs.Laws.{write-write}
use Rattle.timetable.specs.Table.{rows_in}
use Rattle.timetable.proofs.Rows.{rows_none}
use Rattle.draft.proofs.Steps.{rows-step}

-- n rows of `size` words each, read by `read`; `give` says what each gives.
-- From row i on they are to be written from place q on; m is where they all end, v what they leave.

module _ {X : Type 0} (read : List ℕ → X) (size : ℕ) (give : X → List ℕ) (w : List ℕ) (n : ℕ) where
  abbrev pub left : ℕ → List ℕ
  left i = gathered give (rows_in read size (n - i) (drop (size * i) w))

  -- row i starts at place p
  pub row-turn : (i p : ℕ) → p ≡ size * i → i < n → (vs : List ℕ) → vs ≡ give (read (drop p w)) → left i ≡ vs ++ left (i + 1)
  unfolding gathered
  row-turn i p d h vs e = ap (gathered give) (rows-step read size n i p w d h) ∙ ap (λ (vs : List ℕ). vs ++ left (i + 1)) (sym e)

  pub no_rows : (i : ℕ) → n ≤ i → left i ≡ []
  unfolding gathered
  no_rows i h = rw (rows_none read size n i (drop (size * i) w) h) refl

  -- all rows
  pub row-start : left 0 ≡ gathered give (rows_in read size n w)
  row-start = rw (mul-zero size, sub-zero n) refl

-- vs is written at q, and the rest behind it
module _ (vs rest all t t₀ : List ℕ) (q m : ℕ) (e : all ≡ vs ++ rest) (len : length t ≡ length t₀) (count : q + length all ≡ m) where
  pub run-count : q + length vs + length rest ≡ m
  run-count = omega (arith, count, ap length e, length-append vs rest)

  module _ (room : m ≤ length t₀) where
    pub run_room : q + length vs ≤ length t
    run_room = omega (arith, run-count)

    pub run-again : (t' r : List ℕ) → t' ≡ write t q vs → write t q all ≡ r → write t' (q + length vs) rest ≡ r
    run-again t' r z v = rw z (write-write t q vs rest run_room ∙ sym (ap (write t q) e) ∙ v)
