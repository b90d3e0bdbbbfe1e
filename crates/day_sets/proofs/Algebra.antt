-- The laws that request No. 7 names, of all fields of up to 380 days. Union and intersection share each law: p and q are the two, in either order.
-- A field goes by its days (`field-same`), so that each law of sets is one of truth values, day by day. Assumes nothing.
use mathlib.Core.Path.{◌≡◌, refl, sym, ap, ap₂, ◌∙◌}
use mathlib.Core.List.{List}
use mathlib.Core.Bool.{Bool, true, false, cond, not, ◌&&◌, ◌||◌}
use Prim.Native.Nat.{ℕ, zero, suc, ◌+◌, ◌^◌, ◌≤◌, ◌<◌}
use native.Mathlib.Omega.{arith}
use lib.ListN.{length, get_or}
use lib.Dec.{eqb, leb}
use borrow.Author.Tests.{eqb-true, eq-eqb, le-leb}
use Rattle.base.specs.Lists.{count_if, upto}
use Rattle.base.proofs.Loops.{and-true}
use Rattle.bitfield.specs.BitField.{bit_words, runs_on}
use Rattle.timetable.specs.Layout.{most_period_days}
use Rattle.day_sets.specs.declared.Operation.{Operation}
use Rattle.day_sets.specs.declared.Operation.TheVariants.{Union, Intersection, Difference}
use Rattle.day_sets.specs.DaySets.{on_day, combined, complement, day_count, is_field}
use Rattle.day_sets.specs.Algebra.{Field, Two, union_first, intersection_first}
use Rattle.day_sets.proofs.Fields.{field_days, field_is, field-same, own-days}

-- ---- of one day

day-commutes : {p q : Operation} → Two p q → (a b : Bool) → on_day p a b ≡ on_day p b a
day-commutes union_first true true = refl
day-commutes union_first true false = refl
day-commutes union_first false true = refl
day-commutes union_first false false = refl
day-commutes intersection_first true true = refl
day-commutes intersection_first true false = refl
day-commutes intersection_first false true = refl
day-commutes intersection_first false false = refl

day-associates : {p q : Operation} → Two p q → (a b c : Bool) → on_day p (on_day p a b) c ≡ on_day p a (on_day p b c)
day-associates union_first true b c = refl
day-associates union_first false b c = refl
day-associates intersection_first true b c = refl
day-associates intersection_first false b c = refl

day-distributes : {p q : Operation} → Two p q → (a b c : Bool) → on_day p a (on_day q b c) ≡ on_day q (on_day p a b) (on_day p a c)
day-distributes union_first true b c = refl
day-distributes union_first false b c = refl
day-distributes intersection_first true b c = refl
day-distributes intersection_first false b c = refl

day-exchanges : {p q : Operation} → Two p q → (a b : Bool) → not (on_day p a b) ≡ on_day q (not a) (not b)
day-exchanges union_first true b = refl
day-exchanges union_first false b = refl
day-exchanges intersection_first true b = refl
day-exchanges intersection_first false b = refl

day-twice : (a : Bool) → not (not a) ≡ a
day-twice true = refl
day-twice false = refl

-- a day of either and a day of both: counted, they are the days of the two
day-counts : (a b : Bool) → cond (a || b) 1 0 + cond (a && b) 1 0 ≡ cond a 1 0 + cond b 1 0
day-counts true true = refl
day-counts true false = refl
day-counts false true = refl
day-counts false false = refl

-- ---- each day of a result, by the operands' day

module _ (n : ℕ) (m : n ≤ most_period_days) where
  pub combined-day : (o : Operation) (a b : List ℕ) (d : ℕ) → d < n → runs_on (combined o n a b) d ≡ on_day o (runs_on a d) (runs_on b d)
  unfolding combined
  combined-day o a b = field_days n (λ (d : ℕ). on_day o (runs_on a d) (runs_on b d)) m

  pub complement-day : (a : List ℕ) (d : ℕ) → d < n → runs_on (complement n a) d ≡ not (runs_on a d)
  unfolding complement
  complement-day a = field_days n (λ (d : ℕ). not (runs_on a d)) m

-- and its frame: a result is a field again
pub combined-field : (o : Operation) (n : ℕ) (a b : List ℕ) → Field n (combined o n a b)
unfolding combined
combined-field o n a b = field_is n (λ (d : ℕ). on_day o (runs_on a d) (runs_on b d))

pub complement-field : (n : ℕ) (a : List ℕ) → Field n (complement n a)
unfolding complement
complement-field n a = field_is n (λ (d : ℕ). not (runs_on a d))

-- ---- "union and intersection commute, associate and distribute over each other"

module _ (n : ℕ) (m : n ≤ most_period_days) {p q : Operation} (t : Two p q) where
  pub commutes : (a b : List ℕ) → combined p n a b ≡ combined p n b a
  unfolding combined
  commutes a b = field-same n _ _ (λ d h. day-commutes t (runs_on a d) (runs_on b d))

  pub associates : (a b c : List ℕ) → combined p n (combined p n a b) c ≡ combined p n a (combined p n b c)
  unfolding combined
  associates a b c =
      field-same n _ _ (λ d h.
      ap (λ (x : Bool). on_day p x (runs_on c d)) (combined-day n m p a b d h)
      ∙ day-associates t (runs_on a d) (runs_on b d) (runs_on c d)
      ∙ ap (on_day p (runs_on a d)) (sym (combined-day n m p b c d h)))

  pub distributes : (a b c : List ℕ) → combined p n a (combined q n b c) ≡ combined q n (combined p n a b) (combined p n a c)
  unfolding combined
  distributes a b c =
      field-same n _ _ (λ d h.
      ap (on_day p (runs_on a d)) (combined-day n m q b c d h)
      ∙ day-distributes t (runs_on a d) (runs_on b d) (runs_on c d)
      ∙ ap₂ (on_day q) (sym (combined-day n m p a b d h)) (sym (combined-day n m p a c d h)))

  -- "complement .. exchanges the two"
  pub exchanges : (a b : List ℕ) → complement n (combined p n a b) ≡ combined q n (complement n a) (complement n b)
  unfolding combined complement
  exchanges a b =
      field-same n _ _ (λ d h.
      ap not (combined-day n m p a b d h)
      ∙ day-exchanges t (runs_on a d) (runs_on b d)
      ∙ ap₂ (on_day q) (sym (complement-day n m a d h)) (sym (complement-day n m b d h)))

module _ (n : ℕ) (m : n ≤ most_period_days) where
  -- "complement twice gives the same field"
  pub complement-twice : (a : List ℕ) → Field n a → complement n (complement n a) ≡ a
  unfolding complement
  complement-twice a f =
      field-same n _ (runs_on a) (λ d h. ap not (complement-day n m a d h) ∙ day-twice (runs_on a d))
      ∙ own-days n m f

  -- the first without the second is what it has in common with the second's complement
  pub difference : (a b : List ℕ) → combined Difference n a b ≡ combined Intersection n a (complement n b)
  unfolding combined complement
  difference a b = field-same n _ _ (λ d h. ap (λ (x : Bool). runs_on a d && x) (sym (complement-day n m b d h)))

-- ---- "the day counts of union and intersection together make those of the operands"

count_same : (f g : ℕ → Bool) (n k : ℕ) → ((d : ℕ) → k ≤ d → d < k + n → f d ≡ g d) → count_if f (upto n k) ≡ count_if g (upto n k)
unfolding count_if upto
count_same f g zero k e = refl
count_same f g (suc n) k e = ap₂ (λ (b : Bool) (x : ℕ). cond b 1 0 + x) (e k (omega arith) (omega arith)) (count_same f g n (k + 1) (λ d a b. e d (omega arith) (omega arith)))

counts-join : (f g : ℕ → Bool) (n k : ℕ) → count_if (λ (d : ℕ). f d || g d) (upto n k) + count_if (λ (d : ℕ). f d && g d) (upto n k) ≡ count_if f (upto n k) + count_if g (upto n k)
unfolding count_if upto
counts-join f g zero k = refl
counts-join f g (suc n) k = omega (arith, day-counts (f k) (g k), counts-join f g n (k + 1))

pub counts : (n : ℕ) → n ≤ most_period_days → (a b : List ℕ) → day_count n (combined Union n a b) + day_count n (combined Intersection n a b) ≡ day_count n a + day_count n b
unfolding day_count
counts n m a b =
    ap₂ ◌+◌ (count_same (runs_on (combined Union n a b)) _ n 0 (λ d l h. combined-day n m Union a b d (omega arith))) (count_same (runs_on (combined Intersection n a b)) _ n 0 (λ d l h. combined-day n m Intersection a b d (omega arith)))
    ∙ counts-join (runs_on a) (runs_on b) n 0

-- ---- what is not refused is a field, and a field of a period is not refused: so a result may be given again

pub taken-field : (n : ℕ) (a : List ℕ) → is_field n a ≡ true → ((i : ℕ) → i < bit_words → get_or a i 0 < 2 ^ 32) → Field n a
unfolding is_field
taken-field n a e f =
    let w = and-true (eqb (length a) bit_words) _ (and-true (leb n most_period_days) _ (and-true (leb 1 n) _ e).1).1 in
    record { twelve = eqb-true (length a) bit_words w.0; fit = f; frame = w.1 }

pub field-taken : (n : ℕ) (a : List ℕ) → 1 ≤ n → n ≤ most_period_days → Field n a → is_field n a ≡ true
unfolding is_field
field-taken n a l m f = rw (le-leb 1 n l, le-leb n most_period_days m, eq-eqb (length a) bit_words f.twelve, f.frame)
