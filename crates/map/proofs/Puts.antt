-- A record more, and the map of none. Assumes nothing.
use mathlib.Core.Path.{◌≡◌, refl, ◌∙◌, sym}
use mathlib.Core.List.{List}
use mathlib.Core.Bool.{Bool, true, false, cond}
use mathlib.Core.Logic.{⊎_elim}
use Prim.Native.Nat.{ℕ, suc, ◌+◌, ◌*◌, ◌/◌, ◌≤◌, ◌<◌}
use native.Mathlib.Nat.{eq-or-lt_of_le}
use native.Mathlib.Numerals.{add-one}
use native.Mathlib.Omega.{arith}
use lib.ListN.{length, get_or, set, replicate, length-set, length-replicate, get_or-replicate}
use lib.Seq.{get_or-set_same, get_or-set_other}
use lib.Dec.{eqb}
use borrow.Author.Tests.{eqb-true, eqb-false}
use Rattle.base.proofs.Laws.{tests}
use Rattle.chains.specs.Chains.{bucket_of}
use Rattle.map.specs.Inner.Map.{last_of, column, numbers_in, places_in, in_bucket, Chained, Added}
use Rattle.map.proofs.Columns.{column-same, column-more, last_step}

-- ---- a record more, for `search puts`

-- m' differs from m at four words only
module _ (m m' : List ℕ) (c n p b : ℕ) (k : Chained c m) (room : 4 * c + 4 ≤ length m) (e : b ≡ bucket_of (length m / 4) n) (l : b < length m / 4)
    (len : length m' ≡ length m)
    (other : (i : ℕ) → (i ≡ 4 * c + 1 → ⊥) → (i ≡ 4 * c + 2 → ⊥) → (i ≡ 4 * c + 3 → ⊥) → (i ≡ 4 * b → ⊥) → get_or m' i 0 ≡ get_or m i 0)
    (one : get_or m' (4 * c + 1) 0 ≡ n) (two : get_or m' (4 * c + 2) 0 ≡ p) (three : get_or m' (4 * c + 3) 0 ≡ get_or m (4 * b) 0) (four : get_or m' (4 * b) 0 ≡ c + 1) where
  kept-one : (i : ℕ) → i < c → get_or m' (4 * i + 1) 0 ≡ get_or m (4 * i + 1) 0
  kept-one i h = other (4 * i + 1) (λ d. omega arith) (λ d. omega arith) (λ d. omega arith) (λ d. omega arith)

  kept-numbers : (j : ℕ) → j ≤ c → numbers_in j m' ≡ numbers_in j m
  kept-numbers j h = column-same 1 j m m' (λ i d. kept-one i (omega arith))

  kept-places : places_in c m' ≡ places_in c m
  kept-places = column-same 2 c m m' (λ i h. other (4 * i + 2) (λ d. omega arith) (λ d. omega arith) (λ d. omega arith) (λ d. omega arith))

  new-heads : (i : ℕ) → i < length m / 4 → get_or m' (4 * i) 0 ≡ last_of (in_bucket (length m / 4) i) (numbers_in (suc c) m')
  new-heads i h = rw (last_step (in_bucket (length m / 4) i) m' c, one, kept-numbers c (omega arith)) (go (eqb (bucket_of (length m / 4) n) i) refl)
    where
      go : (u : Bool) → eqb (bucket_of (length m / 4) n) i ≡ u → get_or m' (4 * i) 0 ≡ cond u (suc c) (last_of (in_bucket (length m / 4) i) (numbers_in c m))
      go true y = rw (sym (eqb-true (bucket_of (length m / 4) n) i y) ∙ sym e) (four ∙ add-one c)
      go false y = other (4 * i) (λ d. omega arith) (λ d. omega arith) (λ d. omega arith) (λ d. eqb-false (bucket_of (length m / 4) n) i y (sym e ∙ omega arith)) ∙ k.heads i h

  new-links : (i : ℕ) → i ≤ c → get_or m' (4 * i + 3) 0 ≡ last_of (in_bucket (length m / 4) (bucket_of (length m / 4) (get_or m' (4 * i + 1) 0))) (numbers_in i m')
  new-links i h = rw (kept-numbers i h) (⊎_elim (λ d. at_last d) (λ d. before d) (eq-or-lt_of_le h))
    where
      at_last : i ≡ c → get_or m' (4 * i + 3) 0 ≡ last_of (in_bucket (length m / 4) (bucket_of (length m / 4) (get_or m' (4 * i + 1) 0))) (numbers_in i m)
      at_last d = rw (d, one, ← e) (three ∙ k.heads b l)

      before : i < c → get_or m' (4 * i + 3) 0 ≡ last_of (in_bucket (length m / 4) (bucket_of (length m / 4) (get_or m' (4 * i + 1) 0))) (numbers_in i m)
      before d = rw (kept-one i d) (other (4 * i + 3) (λ y. omega arith) (λ y. omega arith) (λ y. omega arith) (λ y. omega arith) ∙ k.links i d)

  added-by : Added c n p m m'
  added-by = record {
    same = len;
    chained = record {
      size = omega (arith, len, k.size);
      room = omega (arith, len);
      heads = rw (len, add-one) new-heads;
      links = rw len (λ i h. new-links i (omega arith));
    };
    numbers = column-more 1 c n m m' (kept-numbers c (omega arith)) one;
    places = column-more 2 c p m m' kept-places two;
  }

pub added : (m : List ℕ) (c n p b v : ℕ) → Chained c m → 4 * c + 4 ≤ length m → b ≡ bucket_of (length m / 4) n → b < length m / 4 → v ≡ c + 1
    → Added c n p m (set (set (set (set m (4 * c + 1) n) (4 * c + 2) p) (4 * c + 3) (get_or m (4 * b) 0)) (4 * b) v)
added m c n p b v k room e l d =
    let m₁ : List ℕ = set m (4 * c + 1) n in
    let m₂ : List ℕ = set m₁ (4 * c + 2) p in
    let m₃ : List ℕ = set m₂ (4 * c + 3) (get_or m (4 * b) 0) in
    let off₃ : (i : ℕ) → (i ≡ 4 * b → ⊥) → get_or (set m₃ (4 * b) v) i 0 ≡ get_or m₃ i 0 = λ i. get_or-set_other m₃ (4 * b) i v 0 in
    let off₂ : (i : ℕ) → (i ≡ 4 * c + 3 → ⊥) → get_or m₃ i 0 ≡ get_or m₂ i 0 = λ i. get_or-set_other m₂ (4 * c + 3) i (get_or m (4 * b) 0) 0 in
    let off₁ : (i : ℕ) → (i ≡ 4 * c + 2 → ⊥) → get_or m₂ i 0 ≡ get_or m₁ i 0 = λ i. get_or-set_other m₁ (4 * c + 2) i p 0 in
    let off₀ : (i : ℕ) → (i ≡ 4 * c + 1 → ⊥) → get_or m₁ i 0 ≡ get_or m i 0 = λ i. get_or-set_other m (4 * c + 1) i n 0 in
    added-by m (set m₃ (4 * b) v) c n p b k room e l (simp length-set refl)
    (λ i y₁ y₂ y₃ y₄. off₃ i y₄ ∙ off₂ i y₃ ∙ off₁ i y₂ ∙ off₀ i y₁)
    (off₃ (4 * c + 1) (λ y. omega arith) ∙ off₂ (4 * c + 1) (λ y. omega arith) ∙ off₁ (4 * c + 1) (λ y. omega arith) ∙ get_or-set_same m (4 * c + 1) n 0 (omega arith))
    (off₃ (4 * c + 2) (λ y. omega arith) ∙ off₂ (4 * c + 2) (λ y. omega arith) ∙ get_or-set_same m₁ (4 * c + 2) p 0 (simp length-set (omega arith)))
    (off₃ (4 * c + 3) (λ y. omega arith) ∙ get_or-set_same m₂ (4 * c + 3) (get_or m (4 * b) 0) 0 (simp length-set (omega arith)))
    (get_or-set_same m₃ (4 * b) v 0 (simp length-set (omega arith)) ∙ d)

pub ruleset puts = (tests, added)

-- ---- the empty map

-- words whose heads are 0 are a map of no record
pub empty-heads : (m : List ℕ) → length m < 4294967296 → ((b : ℕ) → b < length m / 4 → get_or m (4 * b) 0 ≡ 0) → Chained 0 m
unfolding last_of column
empty-heads m s h = record { size = s; room = omega arith; heads = h; links = λ i l. absurd (omega arith) }

pub empty-zeros : (n : ℕ) → n < 4294967296 → Chained 0 (replicate n 0)
empty-zeros n s = empty-heads (replicate n 0) (omega (arith, length-replicate {A = ℕ} n 0)) (λ b l. get_or-replicate n (4 * b) 0 0 (omega (arith, length-replicate {A = ℕ} n 0)))
