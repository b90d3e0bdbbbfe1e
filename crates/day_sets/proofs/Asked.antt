-- The needs of the functions on lent words and on fields by value: `fields` and `answers`. Assumes nothing.
use Rattle.std.specs.Prelude.{Ok, Err}
use mathlib.Core.Path.{◌≡◌, refl, sym, ap, ◌∙◌}
use mathlib.Core.List.{List, append-nil}
use mathlib.Core.Bool.{Bool, true, false, cond, not, ◌&&◌, ◌||◌}
use Prim.Native.Nat.{ℕ, zero, suc, ◌+◌, ◌-◌, ◌≤◌, ◌<◌}
use native.Mathlib.Omega.{arith}
use lib.ListN.{length, drop_of_length-le}
use lib.Dec.{eqb, leb}
use borrow.Author.Tests.{not-true, not-false, eq-eqb, ne_eqb, eqb-true, leb-true, lt-leb, le-leb}
use Rattle.base.specs.Lists.{count_if, upto}
use Rattle.base.proofs.Laws.{tests}
use Rattle.base.proofs.Loops.{and-true}
use Rattle.bitfield.specs.BitField.{bit_words, bit_count, bit, runs_on, framed}
use Rattle.timetable.specs.Layout.{most_period_days}
use Rattle.timetable.specs.declared.refusal.Refusal.TheVariants.{NoProperField}
use Rattle.words.specs.Words.{write}
use Rattle.words.proofs.Laws.{write-front}
use Rattle.day_sets.specs.declared.Operation.{Operation}
use Rattle.day_sets.specs.declared.Operation.TheVariants.{Union, Intersection, Difference}
use Rattle.day_sets.specs.DaySets.{field_of, combined, complement, day_count, is_field, pair_taken, combine_asked, combine_written, one_taken, complement_asked, complement_written, count_asked}
use Rattle.day_sets.proofs.Fields.{field-length, field-same}

-- ---- on fields by value, for `search fields`

-- bits are days two places on
count-days : (ws : List ℕ) (m d : ℕ) → count_if (bit ws) (upto m (d + 2)) ≡ count_if (runs_on ws) (upto m d)
unfolding count_if upto
count-days ws zero d = refl
count-days ws (suc m) d =
    let z : d + 2 + 1 ≡ d + 1 + 2 = omega arith in
    ap (λ (x : ℕ). cond (bit ws (d + 2)) 1 0 + x) (ap (λ (k : ℕ). count_if (bit ws) (upto m k)) z ∙ count-days ws m (d + 1))

pub days-counted : (n r : ℕ) (ws : List ℕ) → r ≡ count_if (bit ws) (upto (n + 2 - 2) 2) → r ≡ day_count n ws
unfolding day_count
days-counted n r ws e = let z : n + 2 - 2 ≡ n = omega arith in e ∙ rw z (count-days ws n 0)

-- bits that were set in a frame; bs are they, r the field
module _ (n : ℕ) (bs r : List ℕ) (f : r ≡ field_of n (runs_on bs)) (m : n ≤ most_period_days) where
  framed-days : (g : ℕ → Bool) → ((k : ℕ) → k < bit_count → bit bs k ≡ g k) → r ≡ field_of n (λ (d : ℕ). g (d + 2))
  framed-days g e = f ∙ field-same n (runs_on bs) (λ (d : ℕ). g (d + 2)) (λ d h. e (d + 2) (omega arith))

  -- two fields taken together; o is the operation that was asked for
  module _ (a b : List ℕ) (o : Operation) where
    pub union-is : o ≡ Union → ((k : ℕ) → k < bit_count → bit bs k ≡ (bit a k || bit b k)) → r ≡ combined o n a b
    unfolding combined
    union-is q e = framed-days (λ (k : ℕ). bit a k || bit b k) e ∙ rw q

    pub intersection-is : o ≡ Intersection → ((k : ℕ) → k < bit_count → bit bs k ≡ (bit a k && bit b k)) → r ≡ combined o n a b
    unfolding combined
    intersection-is q e = framed-days (λ (k : ℕ). bit a k && bit b k) e ∙ rw q

    pub difference-is : o ≡ Difference → ((k : ℕ) → k < bit_count → bit bs k ≡ (bit a k && not (bit b k))) → r ≡ combined o n a b
    unfolding combined
    difference-is q e = framed-days (λ (k : ℕ). bit a k && not (bit b k)) e ∙ rw q

  -- every bit but those of a field
  pub complement-is : (a e : List ℕ) → ((k : ℕ) → k < bit_count → bit e k ≡ true) → ((k : ℕ) → k < bit_count → bit bs k ≡ (bit e k && not (bit a k))) → r ≡ complement n a
  unfolding complement
  complement-is a e p q = framed-days (λ (k : ℕ). not (bit a k)) (λ k h. q k h ∙ ap (λ (x : Bool). x && not (bit a k)) (p k h))

pub ruleset fields = (tests, days-counted, union-is, intersection-is, difference-is, complement-is)

-- ---- lent words taken as a field, for `search lent`

module _ (n : ℕ) (ws : List ℕ) where
  pub no-days : n < 1 → false ≡ is_field n ws
  unfolding is_field
  no-days h = rw (lt-leb 1 n h)

  pub too_many : most_period_days < n → false ≡ is_field n ws
  unfolding is_field
  too_many h = rw (le-leb 1 n (omega arith), lt-leb n most_period_days h)

  pub other_length : (length ws ≡ bit_words → ⊥) → 1 ≤ n → n ≤ most_period_days → false ≡ is_field n ws
  unfolding is_field
  other_length e h m = rw (le-leb 1 n h, le-leb n most_period_days m, ne_eqb (length ws) bit_words e)

  -- f is the value that the words were read as
  pub by-frame : (r : Bool) (f : List ℕ) → 1 ≤ n → n ≤ most_period_days → length ws ≡ bit_words → f ≡ ws → r ≡ framed n f → r ≡ is_field n ws
  unfolding is_field
  by-frame r f h m e q g = rw (le-leb 1 n h, le-leb n most_period_days m, eq-eqb (length ws) bit_words e, ← q) g

-- what a field says; t is what the code's test said
module _ (n : ℕ) (ws : List ℕ) (t : Bool) (e : t ≡ is_field n ws) (k : not t ≡ false) where
  said : is_field n ws ≡ true
  said = sym e ∙ not-false t k

  parts : (leb 1 n ≡ true) × (leb n most_period_days ≡ true) × (eqb (length ws) bit_words ≡ true)
  unfolding is_field
  parts =
      let a = and-true (leb 1 n) _ said in
      let b = and-true (leb n most_period_days) _ a.1 in
      (a.0, b.0, (and-true (eqb (length ws) bit_words) _ b.1).0)

  pub field-within : n ≤ most_period_days
  field-within = leb-true n most_period_days parts.1

  pub field-twelve : length ws ≡ bit_words
  field-twelve = eqb-true (length ws) bit_words parts.2

pub ruleset lent = (tests, no-days, too_many, other_length, by-frame, field-within, field-twelve)

-- ---- the answers, for `search answers`

-- twelve words written over twelve
all-written : (t' t r f : List ℕ) → t' ≡ write t 0 r → r ≡ f → length t ≡ bit_words → length f ≡ bit_words → t' ≡ f
all-written t' t r f e q l m =
    e ∙ rw q (write-front t f ∙ (rw (drop_of_length-le t {i = length f} (omega (arith, l, m))) (append-nil f)))

-- two fields and the words l lent for the result; x and y are what the code's tests said of the fields
module _ (n : ℕ) (a b l : List ℕ) (x : Bool) (p : x ≡ is_field n a) where
  pub first-refused : not x ≡ true → Err NoProperField ≡ combine_asked n a b l
  unfolding combine_asked pair_taken
  first-refused k = rw (sym p ∙ not-true x k)

  pub first-kept : (o : Operation) → not x ≡ true → l ≡ combine_written o n a b l
  unfolding combine_written pair_taken
  first-kept o k = rw (sym p ∙ not-true x k)

  module _ (h : not x ≡ false) (y : Bool) (q : y ≡ is_field n b) where
    pub second-refused : not y ≡ true → Err NoProperField ≡ combine_asked n a b l
    unfolding combine_asked pair_taken
    second-refused k = rw (sym p ∙ not-false x h, sym q ∙ not-true y k)

    pub second-kept : (o : Operation) → not y ≡ true → l ≡ combine_written o n a b l
    unfolding combine_written pair_taken
    second-kept o k = rw (sym p ∙ not-false x h, sym q ∙ not-true y k)

    module _ (k : not y ≡ false) where
      pub room-refused : (length l ≡ bit_words → ⊥) → Err NoProperField ≡ combine_asked n a b l
      unfolding combine_asked pair_taken
      room-refused e = rw (sym p ∙ not-false x h, sym q ∙ not-false y k, ne_eqb (length l) bit_words e)

      pub room-kept : (o : Operation) → (length l ≡ bit_words → ⊥) → l ≡ combine_written o n a b l
      unfolding combine_written pair_taken
      room-kept o e = rw (sym p ∙ not-false x h, sym q ∙ not-false y k, ne_eqb (length l) bit_words e)

      module _ (e : length l ≡ bit_words) where
        pub combine-given : Ok tt ≡ combine_asked n a b l
        unfolding combine_asked pair_taken
        combine-given = rw (sym p ∙ not-false x h, sym q ∙ not-false y k, eq-eqb (length l) bit_words e)

        -- f and g are the values that the fields were read as, r what they make, t the words afterwards
        pub combine-written : (o : Operation) (t r f g : List ℕ) → f ≡ a → g ≡ b → r ≡ combined o n f g → t ≡ write l 0 r → t ≡ combine_written o n a b l
        unfolding combine_written pair_taken combined
        combine-written o t r f g u v c w =
            rw (sym p ∙ not-false x h, sym q ∙ not-false y k, eq-eqb (length l) bit_words e)
            (all-written t l r (combined o n a b) w (rw (u, v) at c) e (field-length n _))

pub ruleset answers = (lent, first-refused, first-kept, second-refused, second-kept, room-refused, room-kept, combine-given, combine-written)

-- ---- one field, for `search alone`

module _ (n : ℕ) (a l : List ℕ) (x : Bool) (p : x ≡ is_field n a) where
  pub alone-refused : not x ≡ true → Err NoProperField ≡ complement_asked n a l
  unfolding complement_asked one_taken
  alone-refused k = rw (sym p ∙ not-true x k)

  pub alone-kept : not x ≡ true → l ≡ complement_written n a l
  unfolding complement_written one_taken
  alone-kept k = rw (sym p ∙ not-true x k)

  module _ (h : not x ≡ false) where
    pub alone-room-refused : (length l ≡ bit_words → ⊥) → Err NoProperField ≡ complement_asked n a l
    unfolding complement_asked one_taken
    alone-room-refused e = rw (sym p ∙ not-false x h, ne_eqb (length l) bit_words e)

    pub alone-room-kept : (length l ≡ bit_words → ⊥) → l ≡ complement_written n a l
    unfolding complement_written one_taken
    alone-room-kept e = rw (sym p ∙ not-false x h, ne_eqb (length l) bit_words e)

    module _ (e : length l ≡ bit_words) where
      pub complement-given : Ok tt ≡ complement_asked n a l
      unfolding complement_asked one_taken
      complement-given = rw (sym p ∙ not-false x h, eq-eqb (length l) bit_words e)

      pub complement-written : (t r f : List ℕ) → f ≡ a → r ≡ complement n f → t ≡ write l 0 r → t ≡ complement_written n a l
      unfolding complement_written one_taken complement
      complement-written t r f u c w =
          rw (sym p ∙ not-false x h, eq-eqb (length l) bit_words e)
          (all-written t l r (complement n a) w (rw u at c) e (field-length n _))

module _ (n : ℕ) (a : List ℕ) (x : Bool) (p : x ≡ is_field n a) where
  pub count-refused : not x ≡ true → Err NoProperField ≡ count_asked n a
  unfolding count_asked
  count-refused k = rw (sym p ∙ not-true x k)

  pub count-given : (r : ℕ) (f : List ℕ) → not x ≡ false → f ≡ a → r ≡ day_count n f → Ok r ≡ count_asked n a
  unfolding count_asked
  count-given r f h u c = rw (sym p ∙ not-false x h, c, u)

pub ruleset alone = (lent, alone-refused, alone-kept, alone-room-refused, alone-room-kept, complement-given, complement-written, count-refused, count-given)
