-- The search for the first match: its turns (for `search turns`), and what stands at the place it finds (`find-there`, `some-there`, `place_inside`).
-- Assumes nothing.
use mathlib.Core.Path.{◌≡◌, refl, ap, ◌∙◌}
use mathlib.Core.List.{List}
use mathlib.Core.Bool.{Bool, true, false, cond, ◌||◌}
use mathlib.Core.Option.{some}
use mathlib.Core.Option as maybe
use Prim.Native.Nat.{ℕ, zero, suc, ◌+◌, ◌-◌, ◌*◌, ◌^◌, ◌≤◌, ◌<◌}
use native.Mathlib.Nat.{mul-suc}
use native.Mathlib.Omega.{arith}
use lib.ListN.{length, get_or, drop}
use lib.Seq.{drop-drop}
use lib.Dec.{eqb}
use borrow.Author.Tests.{eq-eqb, ne_eqb}
use Rattle.std.specs.Prelude.{Option, Some, None, is_some}
use Rattle.base.specs.Lists.{find, some_of}
use Rattle.base.proofs.Laws.{tests}
use Rattle.timetable.specs.Table.{rows_in}
use Rattle.timetable.proofs.Rows.{stride-turn}
use Rattle.table.proofs.Records.{first_word}
use Rattle.lookups.specs.Lookups.{place_of, read_at}

-- ---- a turn at place p, the c-th of n

one_place : (w : List ℕ) (key s p k : ℕ) → 0 < k → place_of w key s p k ≡ cond (eqb (get_or w p 0) key) (Some p) (place_of w key s (p + s) (k - 1))
unfolding place_of
one_place w key s p zero h = absurd (omega arith)
one_place w key s p (suc k) h =
    let e : suc k - 1 ≡ k = omega arith in
    rw e

module _ (w : List ℕ) (key s p n c : ℕ) (r : Option ℕ) (h : c < n) (v : place_of w key s p (n - c) ≡ r) where
  pub find-again : (get_or w p 0 ≡ key → ⊥) → place_of w key s (p + s) (n - (c + 1)) ≡ r
  find-again x =
      let e : n - c - 1 ≡ n - (c + 1) = omega arith in
      rw (one_place w key s p (n - c) (omega arith), ne_eqb (get_or w p 0) key x, e) at v

  pub find-here : get_or w p 0 ≡ key → Some p ≡ r
  find-here e = rw (one_place w key s p (n - c) (omega arith), eq-eqb (get_or w p 0) key e) at v

none_left : (w : List ℕ) (key s p k : ℕ) (r : Option ℕ) → k ≤ 0 → place_of w key s p k ≡ r → None ≡ r
unfolding place_of
none_left w key s p zero r h v = v
none_left w key s p (suc k) r h v = absurd (omega arith)

pub find_none : (w : List ℕ) (key s p n c : ℕ) (r : Option ℕ) → n ≤ c → place_of w key s p (n - c) ≡ r → None ≡ r
find_none w key s p n c r h v = none_left w key s p (n - c) r (omega arith) v

module _ (w : List ℕ) (s p n c : ℕ) (h : c < n) (j : 1 ≤ s) (v : p + s * (n - c) ≤ length w) where
  pub find-rest : p + s + s * (n - (c + 1)) ≤ length w
  find-rest =
      let e : n - c - 1 ≡ n - (c + 1) = omega arith in
      let t = stride-turn s (n - c) (omega arith) in
      omega (arith, e, t, rw e at t)

  pub find-in : p < length w
  find-in = omega (arith, find-rest)

  pub find-scaled : length w * 4 < 2 ^ 63 → p * 4 < 2 ^ 64
  find-scaled l = omega (arith, find-rest)

  pub find-next : length w < 2 ^ 64 → p + s < 2 ^ 64
  find-next l = omega (arith, find-rest)

pub ruleset turns = (tests, find-again, find-here, find_none, find-rest, find-in, find-scaled, find-next)

-- ---- what stands at the place

-- f reads records of a size whose number is their first word
module _ {X : Type 0} (f : List ℕ → X) (number : X → ℕ) (first : (u : List ℕ) → number (f u) ≡ get_or u 0 0) (w : List ℕ) (key s : ℕ) where
  pub find-there : (n p : ℕ) → find (λ (x : X). eqb (number x) key) (rows_in f s n (drop p w)) ≡ read_at f w (place_of w key s p n)
  unfolding find rows_in place_of
  find-there zero p = refl
  find-there (suc n) p =
      ap (λ (x : ℕ). cond (eqb x key) (some (f (drop p w))) (find (λ (x : X). eqb (number x) key) (rows_in f s n (drop s (drop p w))))) (first (drop p w) ∙ first_word w p)
      ∙ ap (λ (u : List ℕ). cond (eqb (get_or w p 0) key) (some (f (drop p w))) (find (λ (x : X). eqb (number x) key) (rows_in f s n u))) (drop-drop s p w)
      ∙ ap (λ (o : maybe.Option X). cond (eqb (get_or w p 0) key) (some (f (drop p w))) o) (find-there n (p + s))
      ∙ go (eqb (get_or w p 0) key) (place_of w key s (p + s) n)
    where
      go : (t : Bool) (q : Option ℕ) → cond t (some (f (drop p w))) (read_at f w q) ≡ read_at f w (cond t (Some p) q)
      go true q = refl
      go false q = refl

  pub some-there : (n p : ℕ) → some_of (λ (x : X). eqb (number x) key) (rows_in f s n (drop p w)) ≡ is_some (place_of w key s p n)
  unfolding some_of rows_in place_of
  some-there zero p = refl
  some-there (suc n) p =
      rw (first (drop p w), first_word w p, drop-drop s p w, some-there n (p + s)) (go (eqb (get_or w p 0) key) (place_of w key s (p + s) n))
    where
      go : (t : Bool) (q : Option ℕ) → (t || is_some q) ≡ is_some (cond t (Some p) q)
      go true q = refl
      go false q = refl

-- the record there is one of the n
abbrev Inside : ℕ → ℕ → Option ℕ → Type 0
Inside s m None = Unit {0}
Inside s m (Some q) = q + s ≤ m

inside : (w : List ℕ) (key s n p : ℕ) → Inside s (p + s * n) (place_of w key s p n)
unfolding place_of
inside w key s zero p = tt
inside w key s (suc n) p = go (eqb (get_or w p 0) key) (place_of w key s (p + s) n) (inside w key s n (p + s))
  where
    go : (t : Bool) (f : Option ℕ) → Inside s (p + s + s * n) f → Inside s (p + s * suc n) (cond t (Some p) f)
    go true f h = omega (arith, mul-suc s n)
    go false None h = tt
    go false (Some q) h = omega (arith, mul-suc s n)

pub place_inside : (w : List ℕ) (key s n p q : ℕ) → place_of w key s p n ≡ Some q → q + s ≤ p + s * n
place_inside w key s n p q e = rw e at (inside w key s n p)
