-- Buckets, and the walk of a look-up. Assumes nothing.
use mathlib.Core.Path.{◌≡◌, refl, ap, ◌∙◌, sym}
use mathlib.Core.List.{List}
use mathlib.Core.Bool.{Bool, true, false}
use Prim.Native.Nat.{ℕ, zero, suc, ◌+◌, ◌*◌, ◌/◌, ◌-◌, ◌≤◌, ◌<◌}
use native.Mathlib.Decide.{dec_lt}
use native.Mathlib.Omega.{arith}
use lib.ListN.{length, get_or}
use lib.Dec.{eqb}
use borrow.Author.Tests.{eq-eqb, ne_eqb, eqb-true}
use Rattle.base.proofs.Laws.{tests}
use Rattle.chains.specs.Chains.{bucket_of}
use Rattle.chains.proofs.Follow.{bucket-lt}
use Rattle.map.specs.Inner.Map.{last_of, found_by, found_in, column, numbers_in, in_bucket, Chained, Mapped, Finds}
use Rattle.std.specs.Prelude.{Option, Some, None}
use Rattle.map.proofs.Columns.{last_step, last-le, last-here, last-narrow}

-- ---- the words tell how many records there are

-- the last record is the head of its bucket
last-head : (m : List ℕ) (i : ℕ) → Chained (suc i) m → get_or m (4 * bucket_of (length m / 4) (get_or m (4 * i + 1) 0)) 0 ≡ suc i
last-head m i k =
    let b : ℕ = bucket_of (length m / 4) (get_or m (4 * i + 1) 0) in
    let e : eqb b b ≡ true = eq-eqb b b refl in
    k.heads b (bucket-lt (length m / 4) (get_or m (4 * i + 1) 0) (omega (arith, k.room))) ∙ last_step (in_bucket (length m / 4) b) m i ∙ rw e refl

not_more : (m : List ℕ) (a i : ℕ) → Chained a m → Chained (suc i) m → a ≤ i → ⊥
not_more m a i k l h =
    let b : ℕ = bucket_of (length m / 4) (get_or m (4 * i + 1) 0) in
    let p : b < length m / 4 = bucket-lt (length m / 4) (get_or m (4 * i + 1) 0) (omega (arith, l.room)) in
    omega (arith, last-le (in_bucket (length m / 4) b) m a, sym (k.heads b p) ∙ last-head m i l)

pub one-count : (m : List ℕ) (a b : ℕ) → Chained a m → Chained b m → a ≡ b
one-count m a b k l = go a b k l
  where
    go : (a b : ℕ) → Chained a m → Chained b m → a ≡ b
    go zero zero k l = refl
    go zero (suc j) k l = absurd (not_more m 0 j k l (omega arith))
    go (suc i) zero k l = absurd (not_more m 0 i l k (omega arith))
    go (suc i) (suc j) k l = elim (dec_lt i (suc j)) [ yes h ↦ elim (dec_lt j (suc i)) [ yes g ↦ omega arith | no g ↦ absurd (not_more m (suc i) j k l (omega arith)) ] | no h ↦ absurd (not_more m (suc j) i l k (omega arith)) ]

-- ---- the walk of `find`, for `search walks`: what is found in the first `next` records is found in all, and record `next` is of the bucket

pub record Walk (m : List ℕ) (count number next : ℕ) : Type 0 where
  pub low : next ≤ count
  pub here : last_of (in_bucket (length m / 4) (bucket_of (length m / 4) number)) (numbers_in next m) ≡ next
  pub same : last_of (λ (x : ℕ). eqb x number) (numbers_in next m) ≡ last_of (λ (x : ℕ). eqb x number) (numbers_in count m)

-- with the count, which the code does not hold
pub record Walking (m : List ℕ) (number next : ℕ) : Type 0 where
  pub count : ℕ
  pub chained : Chained count m
  pub walk : Walk m count number next

module _ (m : List ℕ) (number : ℕ) where
  -- what is found among all records
  abbrev found_all : ℕ → Option ℕ
  found_all count = found_in number (numbers_in count m)

  none-there : (n : ℕ) → n ≡ 0 → None ≡ found_all n
  unfolding found_in column last_of
  none-there n e = rw e refl

  -- from the first n records, where as much is found in them
  finds-by : (count n : ℕ) (r : Option ℕ) → Chained count m → last_of (λ (x : ℕ). eqb x number) (numbers_in n m) ≡ last_of (λ (x : ℕ). eqb x number) (numbers_in count m) → r ≡ found_all n → Finds number m r
  unfolding found_in
  finds-by count n r k s e = record { among = λ i l. e ∙ ap found_by s ∙ ap found_all (one-count m count i k l) }

  -- from the first n records to the last of the bucket among them
  walk_from : (count n next : ℕ) → Chained count m → n ≤ count → last_of (λ (x : ℕ). eqb x number) (numbers_in n m) ≡ last_of (λ (x : ℕ). eqb x number) (numbers_in count m)
      → next ≡ last_of (in_bucket (length m / 4) (bucket_of (length m / 4) number)) (numbers_in n m) → Walking m number next
  walk_from count n next k l v e =
      let t : ℕ → Bool = in_bucket (length m / 4) (bucket_of (length m / 4) number) in
      rw e
      (record {
        count = count;
        chained = k;
        walk = record {
          low = omega (arith, last-le t m n);
          here = last-narrow t m t (λ x y. y) n;
          same = last-narrow t m (λ (x : ℕ). eqb x number) (λ x y. eq-eqb (bucket_of (length m / 4) x) (bucket_of (length m / 4) number) (ap (bucket_of (length m / 4)) (eqb-true x number y))) n ∙ v;
        };
      })

  module _ (w : Mapped m) where
    -- words for no record
    pub walk_none : length m < 4 → Finds number m None
    walk_none h = finds-by w.count w.count None w.chained refl (none-there w.count (omega (arith, w.chained.room)))

    pub walk_start : (b next : ℕ) → b ≡ bucket_of (length m / 4) number → b < length m / 4 → next ≡ get_or m (4 * b) 0 → Walking m number next
    walk_start b next e l d = walk_from w.count w.count next w.chained (omega arith) refl (d ∙ w.chained.heads b l ∙ rw e refl)

  module _ (next : ℕ) (w : Walking m number next) where
    pub walk-done : next ≡ 0 → Finds number m None
    walk-done e = finds-by w.count next None w.chained w.walk.same (none-there next e)

    module _ (z : next ≡ 0 → ⊥) where
      pub walk-out : get_or m (4 * next - 3) 0 ≡ number → Finds number m (Some (next - 1))
      unfolding found_in
      walk-out e = finds-by w.count next (Some (next - 1)) w.chained w.walk.same (go next z e)
        where
          go : (n : ℕ) → (n ≡ 0 → ⊥) → get_or m (4 * n - 3) 0 ≡ number → Some (n - 1) ≡ found_by (last_of (λ (x : ℕ). eqb x number) (numbers_in n m))
          go zero y d = absurd (y refl)
          go (suc i) y d =
              let p : 4 * suc i - 3 ≡ 4 * i + 1 = omega arith in
              let q : suc i - 1 ≡ i = omega arith in
              rw (last_step (λ (x : ℕ). eqb x number) m i, eq-eqb (get_or m (4 * i + 1) 0) number (sym (ap (λ (k : ℕ). get_or m k 0) p) ∙ d)) (ap Some q)

      -- the record before it in its bucket
      walk-link : (i : ℕ) → next ≡ suc i → get_or m (4 * next - 1) 0 ≡ last_of (in_bucket (length m / 4) (bucket_of (length m / 4) number)) (numbers_in i m)
      walk-link i e =
          let p : 4 * next - 1 ≡ 4 * i + 3 = omega arith in
          let q : bucket_of (length m / 4) (get_or m (4 * i + 1) 0) ≡ bucket_of (length m / 4) number = eqb-true _ _ (last-here (in_bucket (length m / 4) (bucket_of (length m / 4) number)) m i (rw e at w.walk.here)) in
          rw p (w.chained.links i (omega (arith, w.walk.low)) ∙ rw q refl)

      module _ (next' : ℕ) (d : next' ≡ get_or m (4 * next - 1) 0) where
        pub walk-less : next' < next
        walk-less = go next refl
          where
            go : (n : ℕ) → next ≡ n → next' < next
            go zero e = absurd (z e)
            go (suc i) e = omega (arith, last-le (in_bucket (length m / 4) (bucket_of (length m / 4) number)) m i, d ∙ walk-link i e)

        pub walk-on : (get_or m (4 * next - 3) 0 ≡ number → ⊥) → Walking m number next'
        walk-on y = go next refl
          where
            go : (n : ℕ) → next ≡ n → Walking m number next'
            go zero e = absurd (z e)
            go (suc i) e =
                let p : 4 * next - 3 ≡ 4 * i + 1 = omega arith in
                let t : eqb (get_or m (4 * i + 1) 0) number ≡ false = ne_eqb (get_or m (4 * i + 1) 0) number (λ u. y (ap (λ (k : ℕ). get_or m k 0) p ∙ u)) in
                let s : last_of (λ (x : ℕ). eqb x number) (numbers_in (suc i) m) ≡ last_of (λ (x : ℕ). eqb x number) (numbers_in i m) = last_step (λ (x : ℕ). eqb x number) m i ∙ rw t refl in
                walk_from w.count i next' w.chained (omega (arith, w.walk.low)) (sym s ∙ (rw e at w.walk.same)) (d ∙ walk-link i e)

pub ruleset walks = (tests, walk_none, walk_start, walk-done, walk-out, walk-less, walk-on)
