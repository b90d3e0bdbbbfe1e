-- The last that passes a test, in a column of the words. Assumes nothing.
use mathlib.Core.Path.{◌≡◌, refl, ap, ◌∙◌, sym}
use mathlib.Core.List.{List, [], ◌∷◌, ◌++◌}
use mathlib.Core.Bool.{Bool, true, false, cond}
use Prim.Native.Nat.{ℕ, zero, suc, ◌+◌, ◌*◌, ◌≤◌, ◌<◌}
use native.Mathlib.Numerals.{add-one}
use native.Mathlib.Omega.{arith}
use lib.ListN.{length, get_or, length-append}
use Rattle.base.proofs.Laws.{clash}
use Rattle.map.specs.Inner.Map.{onward, last_of, column, numbers_in}

-- ---- the last that passes a test

last_snoc : (t : ℕ → Bool) (xs : List ℕ) (x : ℕ) → last_of t (xs ++ (x ∷ [])) ≡ cond (t x) (suc (length xs)) (last_of t xs)
unfolding last_of
last_snoc t [] x = refl
last_snoc t (y ∷ xs) x = rw (last_snoc t xs x) (go (t x))
  where
    go : (u : Bool) → onward (t y) (cond u (suc (length xs)) (last_of t xs)) ≡ cond u (suc (suc (length xs))) (onward (t y) (last_of t xs))
    go true = refl
    go false = refl

-- ---- a column

pub length-column : (k n : ℕ) (m : List ℕ) → length (column k n m) ≡ n
unfolding column
length-column k zero m = refl
length-column k (suc n) m = rw (length-append, length-column k n m) (omega arith)

-- a column is told by its words
pub column-same : (k n : ℕ) (m m' : List ℕ) → ((i : ℕ) → i < n → get_or m' (4 * i + k) 0 ≡ get_or m (4 * i + k) 0) → column k n m' ≡ column k n m
unfolding column
column-same k zero m m' h = refl
column-same k (suc n) m m' h = rw (column-same k n m m' (λ i l. h i (omega arith)), h n (omega arith)) refl

pub column-more : (k n x : ℕ) (m m' : List ℕ) → column k n m' ≡ column k n m → get_or m' (4 * n + k) 0 ≡ x → column k (n + 1) m' ≡ column k n m ++ (x ∷ [])
unfolding column
column-more k n x m m' e d = rw (add-one, e, d) refl

-- the last of one record more
module _ (t : ℕ → Bool) (m : List ℕ) where
  pub last_step : (n : ℕ) → last_of t (numbers_in (suc n) m) ≡ cond (t (get_or m (4 * n + 1) 0)) (suc n) (last_of t (numbers_in n m))
  unfolding column
  last_step n = rw (last_snoc t (numbers_in n m) (get_or m (4 * n + 1) 0), length-column 1 n m) refl

  pub last-le : (n : ℕ) → last_of t (numbers_in n m) ≤ n
  unfolding column last_of
  last-le zero = omega arith
  last-le (suc n) = rw (last_step n) (go (t (get_or m (4 * n + 1) 0)) (last-le n))
    where
      go : (u : Bool) → last_of t (numbers_in n m) ≤ n → cond u (suc n) (last_of t (numbers_in n m)) ≤ suc n
      go true l = omega arith
      go false l = omega arith

  -- where the last stands, the test holds
  pub last-here : (n : ℕ) → last_of t (numbers_in (suc n) m) ≡ suc n → t (get_or m (4 * n + 1) 0) ≡ true
  last-here n e = go (t (get_or m (4 * n + 1) 0)) (sym (last_step n) ∙ e)
    where
      go : (u : Bool) → cond u (suc n) (last_of t (numbers_in n m)) ≡ suc n → u ≡ true
      go true d = refl
      go false d = absurd (omega (arith, last-le n, d))

  -- what passes a narrower test is found as well before the last that passes this one
  pub last-narrow : (s : ℕ → Bool) → ((x : ℕ) → s x ≡ true → t x ≡ true) → (n : ℕ) → last_of s (numbers_in (last_of t (numbers_in n m)) m) ≡ last_of s (numbers_in n m)
  unfolding last_of column
  last-narrow s h zero = refl
  last-narrow s h (suc n) =
      let x : ℕ = get_or m (4 * n + 1) 0 in
      rw (last_step n) (go (t x) (s x) (h x) (sym (last_snoc s (numbers_in n m) x ∙ ap (λ (l : ℕ). cond (s x) (suc l) (last_of s (numbers_in n m))) (length-column 1 n m))) (last-narrow s h n))
    where
      go : (u v : Bool) → (v ≡ true → u ≡ true) → cond v (suc n) (last_of s (numbers_in n m)) ≡ last_of s (numbers_in (suc n) m)
          → last_of s (numbers_in (last_of t (numbers_in n m)) m) ≡ last_of s (numbers_in n m)
          → last_of s (numbers_in (cond u (suc n) (last_of t (numbers_in n m))) m) ≡ last_of s (numbers_in (suc n) m)
      go true v i e d = refl
      go false true i e d = clash (i refl)
      go false false i e d = d ∙ e
