-- What a look-up says, for callers. Assumes nothing.
use mathlib.Core.Path.{◌≡◌, refl, ap, ◌∙◌, sym}
use mathlib.Core.List.{List, [], ◌∷◌, ◌++◌, map}
use mathlib.Core.Bool.{Bool, true, false, cond, ◌||◌}
use mathlib.Core.Option.{some}
use Prim.Native.Nat.{ℕ, zero, suc, ◌+◌, ◌*◌, ◌≤◌, ◌<◌}
use native.Mathlib.Nat.{eq-or-lt_of_le}
use native.Mathlib.Omega.{arith}
use lib.ListN.{length, get_or, length-append, length-map, get_or-append}
use lib.Seq.{get_or_at}
use mathlib.Core.Logic.{⊎_elim}
use lib.Dec.{eqb}
use borrow.Author.Tests.{eq-eqb, eqb-true}
use Rattle.base.specs.Lists.{some_of, find}
use Rattle.base.proofs.Laws.{clash, apart}
use Rattle.map.specs.Inner.Map.{onward, last_of, found_by, found_in, column, numbers_in, Chained, Distinct}
use Rattle.std.specs.Prelude.{Option, Some, None, is_some}
use Rattle.map.proofs.Columns.{length-column}

or-true : (b : Bool) → (b || true) ≡ true
or-true true = refl
or-true false = refl

known-last : (t : ℕ → Bool) (ns : List ℕ) → is_some (found_by (last_of t ns)) ≡ some_of t ns
unfolding last_of some_of
known-last t [] = refl
known-last t (n ∷ ns) = go (t n) (last_of t ns) (known-last t ns)
  where
    go : (u : Bool) (l : ℕ) → is_some (found_by l) ≡ some_of t ns → is_some (found_by (onward u l)) ≡ (u || some_of t ns)
    go true zero e = refl
    go true (suc l) e = refl
    go false zero e = e
    go false (suc l) e = e

module _ (number : ℕ) (ns : List ℕ) where
  pub known-found : is_some (found_in number ns) ≡ some_of (λ (x : ℕ). eqb x number) ns
  unfolding found_in
  known-found = known-last (λ (x : ℕ). eqb x number) ns

  pub found_none : (r : Option ℕ) → r ≡ found_in number ns → r ≡ None → some_of (λ (x : ℕ). eqb x number) ns ≡ false
  found_none r e d = sym known-found ∙ ap is_some (sym e ∙ d)

-- the record that is found is one of those there, and has the number
pub record Here (t : ℕ → Bool) (ns : List ℕ) (i : ℕ) : Type 0 where
  pub inside : i < length ns
  pub passes : t (get_or ns i 0) ≡ true

last-at : (t : ℕ → Bool) (ns : List ℕ) (i : ℕ) → last_of t ns ≡ suc i → Here t ns i
unfolding last_of
last-at t [] i e = absurd (omega (arith, e))
last-at t (n ∷ ns) i e = go (t n) refl (last_of t ns) refl i e (last-at t ns)
  where
    go : (u : Bool) → t n ≡ u → (l : ℕ) → last_of t ns ≡ l → (i : ℕ) → onward u l ≡ suc i → ((j : ℕ) → last_of t ns ≡ suc j → Here t ns j) → Here t (n ∷ ns) i
    go u y (suc l) d zero e h = absurd (omega (arith, e))
    go u y (suc l) d (suc i) e h = let k : Here t ns i = h i (d ∙ omega (arith, e)) in record { inside = omega (arith, k.inside); passes = k.passes }
    go true y zero d zero e h = record { inside = omega arith; passes = y }
    go true y zero d (suc i) e h = absurd (omega (arith, e))
    go false y zero d i e h = absurd (omega (arith, e))

found-last : (l i : ℕ) → Some i ≡ found_by l → l ≡ suc i
found-last zero i e = let z : ◌≡◌ {A = ℕ} 0 1 = cc in apart z
found-last (suc l) i e = let z : l ≡ i = cc in ap suc z

module _ (number i : ℕ) (ns : List ℕ) (r : Option ℕ) (e : r ≡ found_in number ns) (d : r ≡ Some i) where
  here : Here (λ (x : ℕ). eqb x number) ns i
  unfolding found_in
  here = last-at (λ (x : ℕ). eqb x number) ns i (found-last (last_of (λ (x : ℕ). eqb x number) ns) i (sym d ∙ e))

  pub found_inside : i < length ns
  found_inside = here.inside

  pub found_number : get_or ns i 0 ≡ number
  found_number = eqb-true (get_or ns i 0) number here.passes

-- ---- where numbers are distinct, what is found is the first as well

pub distinct_tail : (n : ℕ) (ns : List ℕ) → Distinct (n ∷ ns) → Distinct ns
distinct_tail n ns d = record { apart_at = λ i j l h. d.apart_at (suc i) (suc j) (omega arith) (omega arith) }

pub distinct_none : Distinct []
distinct_none = record { apart_at = λ i j l h. absurd (omega arith) }

some_at : (x : ℕ) (ns : List ℕ) (i : ℕ) → i < length ns → get_or ns i 0 ≡ x → some_of (λ (y : ℕ). eqb y x) ns ≡ true
unfolding some_of
some_at x [] i h e = absurd (omega arith)
some_at x (n ∷ ns) zero h e = rw (eq-eqb n x e) refl
some_at x (n ∷ ns) (suc i) h e = rw (some_at x ns i (omega arith) e) (or-true (eqb n x))

-- a number that is not there yet may be put
pub distinct_more : (ns : List ℕ) (x : ℕ) → Distinct ns → some_of (λ (y : ℕ). eqb y x) ns ≡ false → Distinct (ns ++ (x ∷ []))
distinct_more ns x d z = record {
  apart_at = λ i j l h q.
      let le : j ≤ length ns = omega (arith, length-append ns (x ∷ [])) in
      let p : get_or (ns ++ (x ∷ [])) i 0 ≡ get_or ns i 0 = get_or-append ns (x ∷ []) 0 i (omega arith) in
      ⊎_elim
      (λ k. clash (sym z ∙ some_at x ns i (omega arith) (sym p ∙ q ∙ get_or_at ns x [] 0 j (sym k))))
      (λ k. d.apart_at i j l k (sym p ∙ q ∙ get_or-append ns (x ∷ []) 0 j k))
      (eq-or-lt_of_le le);
}

-- the first element whose number it is, as the definitions of look-ups say it
pub first_found : {X : Type 0} (key : X → ℕ) (number : ℕ) (xs : List X) (i : ℕ) (x : X)
    → Distinct (map key xs) → i < length xs → get_or (map key xs) i 0 ≡ number → find (λ (y : X). eqb (key y) number) xs ≡ some (get_or xs i x)
unfolding find
first_found key number [] i x d l e = absurd (omega arith)
first_found key number (y ∷ xs) zero x d l e = rw (eq-eqb (key y) number e) refl
first_found key number (y ∷ xs) (suc i) x d l e =
    go (eqb (key y) number) refl (first_found key number xs i x (distinct_tail (key y) (map key xs) d) (omega arith) e)
  where
    go : (u : Bool) → eqb (key y) number ≡ u → find (λ (z : _). eqb (key z) number) xs ≡ some (get_or xs i x) → cond u (some y) (find (λ (z : _). eqb (key z) number) xs) ≡ some (get_or xs i x)
    go true q v = absurd (d.apart_at 0 (suc i) (omega arith) (omega (arith, length-map xs key)) (eqb-true (key y) number q ∙ sym e))
    go false q v = v

-- ---- a word of a record

pub get_d-column : (k n i : ℕ) (m : List ℕ) → i < n → get_or (column k n m) i 0 ≡ get_or m (4 * i + k) 0
unfolding column
get_d-column k zero i m h = absurd (omega arith)
get_d-column k (suc n) i m h = ⊎_elim (λ e. outer e) (λ l. inner l (get_d-column k n i m l)) (eq-or-lt_of_le le)
  where
    le : i ≤ n
    le = omega arith

    inner : i < n → get_or (column k n m) i 0 ≡ get_or m (4 * i + k) 0 → get_or (column k n m ++ (get_or m (4 * n + k) 0 ∷ [])) i 0 ≡ get_or m (4 * i + k) 0
    inner l e = get_or-append (column k n m) (get_or m (4 * n + k) 0 ∷ []) 0 i (omega (arith, length-column k n m)) ∙ e

    outer : i ≡ n → get_or (column k n m ++ (get_or m (4 * n + k) 0 ∷ [])) i 0 ≡ get_or m (4 * i + k) 0
    outer e = rw e (get_or_at (column k n m) (get_or m (4 * n + k) 0) [] 0 n (length-column k n m))

-- a record that is found has its words in the map
pub found-room : (m : List ℕ) (count number i : ℕ) (r : Option ℕ) → Chained count m → r ≡ found_in number (numbers_in count m) → r ≡ Some i → 4 * i + 4 ≤ length m
found-room m count number i r k e d = omega (arith, found_inside number i (numbers_in count m) r e d, length-column 1 count m, k.room)
