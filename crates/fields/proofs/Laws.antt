-- Laws of fields, as the functions' needs ask them. For callers: `part-read` (a part reads as its columns do). Assumes nothing.
use mathlib.Core.Path.{◌≡◌, refl, ap, ◌∙◌, sym}
use mathlib.Core.List.{List, [], ◌∷◌}
use mathlib.Core.Bool.{Bool, true, false, cond, ◌&&◌}
use Prim.Native.Nat.{ℕ, ◌+◌, ◌-◌, ◌*◌, ◌/◌, ◌%◌, ◌≤◌, ◌<◌}
use lib.ListN.{get_or, take, drop}
use lib.Dec.{eqb, lit<}
use borrow.Author.Tests.{eq-eqb, ne_eqb, le-leb, lt-leb}
use Rattle.base.specs.Lists.{every}
use Rattle.base.proofs.Laws.{tests, clash}
use Rattle.columns.specs.Columns.{pad_to, columns, is_blank, is_digit, digit_value, is_of, blank, digits, number}
use Rattle.columns.specs.declared.ByteClass.TheVariants.{Digit, Byte}
use Rattle.columns.proofs.Laws.{pad-take, pad-pad, get_d-pad, next-column, no-column, number-next, number_fits, tens-fit, power}
use Rattle.std.specs.Prelude.{Option, Some, None}
use Rattle.fields.specs.declared.Time.{Time}
use Rattle.fields.specs.declared.Time.TheVariants.{Absent, Stated, NoTime}
use Rattle.fields.specs.declared.RangeEnd.{RangeEnd}
use Rattle.fields.specs.declared.RangeEnd.TheVariants.{Outer, Stop}
use Rattle.fields.specs.declared.Detail.{Detail}
use Rattle.fields.specs.declared.Detail.TheVariants.{Plain}
use Rattle.fields.specs.Fields.{blank_end, hash_digits, after_hash, hash, clock, time_in, index_by, range_end_in, timed_by, nth_by, detail_in}

-- a reader f of v columns says of a part what it says of the part's columns
pub part-read : {X : Type 0} (f : List ℕ → X) (v : ℕ) (q line : List ℕ) (a b : ℕ) (r : X) → q ≡ take (b - (a - 1)) (drop (a - 1) line) → r ≡ f (pad_to v q) → r ≡ f (pad_to v (columns a b line))
unfolding columns
part-read f v q line a b r e d = rw (d, e, pad-pad v (b - (a - 1)) (drop (a - 1) line))

-- ---- "#" and digits in the w columns of p, for `search hashes`: b was read at place i

module _ (p : List ℕ) (w i b : ℕ) (r : Option ℕ) (h : i < w) (e : b ≡ get_or p i 32) where
  module _ (v : hash (drop i (pad_to w p)) ≡ r) where
    pub hash-again : b ≡ 32 → hash (drop (i + 1) (pad_to w p)) ≡ r
    unfolding hash
    hash-again t = sym (rw (next-column p h e, eq-eqb b 32 t)) ∙ v

    pub hash-found : (q : Option ℕ) → (b ≡ 32 → ⊥) → b ≡ 35 → q ≡ after_hash (drop (i + 1) (pad_to w p)) → q ≡ r
    unfolding hash
    hash-found q t u d = d ∙ sym (rw (next-column p h e, ne_eqb b 32 t, eq-eqb b 35 u)) ∙ v

    pub hash-other : (b ≡ 32 → ⊥) → (b ≡ 35 → ⊥) → None ≡ r
    unfolding hash
    hash-other t u = sym (rw (next-column p h e, ne_eqb b 32 t, ne_eqb b 35 u)) ∙ v

  module _ (t : Bool) (d : t ≡ is_digit b) where
    pub after-digit : t ≡ true → r ≡ hash_digits 0 (drop i (pad_to w p)) → r ≡ after_hash (drop i (pad_to w p))
    after-digit y v = v ∙ sym (step (drop i (pad_to w p)) (drop (i + 1) (pad_to w p)) (next-column p h e))
      where
        step : (l m : List ℕ) → l ≡ b ∷ m → after_hash l ≡ hash_digits 0 l
        step l m q = rw (q, sym d ∙ y)

    module _ (n : ℕ) (v : hash_digits n (drop i (pad_to w p)) ≡ r) where
      pub digits-again : (x : ℕ) → t ≡ true → x ≡ digit_value b → hash_digits (n * 10 + x) (drop (i + 1) (pad_to w p)) ≡ r
      unfolding hash_digits
      digits-again x y k = rw k (sym (rw (next-column p h e, sym d ∙ y)) ∙ v)

      module _ (u : Bool) (y : t ≡ false) (k : u ≡ every (is_of (Byte 32)) (drop i (pad_to w p))) where
        behind : hash_digits n (drop i (pad_to w p)) ≡ cond u (Some n) None
        unfolding hash_digits
        behind = step (drop i (pad_to w p)) (drop (i + 1) (pad_to w p)) (next-column p h e) ∙ ap (λ (z : Bool). cond z (Some n) None) (sym k)
          where
            step : (l m : List ℕ) → l ≡ b ∷ m → hash_digits n l ≡ blank_end n l
            step l m q = rw (q, sym d ∙ y)

        pub digits-end : u ≡ true → Some n ≡ r
        digits-end z = sym (rw (behind, z)) ∙ v

        pub digits-broken : u ≡ false → None ≡ r
        digits-broken z = sym (rw (behind, z)) ∙ v

pub after-other : (p : List ℕ) (w i b : ℕ) (t : Bool) → i < w → b ≡ get_or p i 32 → t ≡ is_digit b → t ≡ false → None ≡ after_hash (drop i (pad_to w p))
after-other p w i b t h e d y = rw (next-column p h e, sym d ∙ y)

module _ (p : List ℕ) (w i : ℕ) (h : w ≤ i) where
  pub hash-done : (r : Option ℕ) → hash (drop i (pad_to w p)) ≡ r → None ≡ r
  unfolding hash
  hash-done r v = sym (rw (no-column p h)) ∙ v

  pub after_none : None ≡ after_hash (drop i (pad_to w p))
  after_none = rw (no-column p h)

  pub digits-done : (n : ℕ) (r : Option ℕ) → hash_digits n (drop i (pad_to w p)) ≡ r → Some n ≡ r
  unfolding hash_digits
  digits-done n r v = sym (rw (no-column p h)) ∙ v

pub ruleset hashes = (tests, hash-again, hash-found, hash-other, hash-done, after-digit, after-other, after_none, digits-again, digits-end, digits-broken, digits-done, number-next, number_fits, tens-fit, power)

-- ---- times, range ends and details, for `search readers`

module _ (p : List ℕ) (barred t : Bool) (et : t ≡ every (is_of Digit) (pad_to 5 p)) where
  all_digits : digits (pad_to 5 p) ≡ t
  all_digits = sym et

  pub clock-none : t ≡ false → NoTime ≡ clock barred (pad_to 5 p)
  clock-none y = rw (all_digits, y)

  module _ (n : ℕ) (y : t ≡ true) (en : n ≡ number (pad_to 5 p)) where
    pub clock-late : 59 < n % 100 → NoTime ≡ clock barred (pad_to 5 p)
    clock-late k = rw (all_digits, y, sym en, lt-leb (n % 100) 59 k)

    pub clock-said : n % 100 ≤ 59 → Stated (n / 100 * 60 + n % 100) barred ≡ clock barred (pad_to 5 p)
    clock-said k = rw (all_digits, y, sym en, le-leb (n % 100) 59 k)

module _ (p : List ℕ) (t : Bool) (et : t ≡ every (is_of (Byte 32)) (pad_to 6 p)) where
  all-blank : blank (pad_to 6 p) ≡ t
  all-blank = sym et

  pub time-absent : t ≡ true → Absent ≡ time_in (pad_to 6 p)
  unfolding time_in
  time-absent y = rw (all-blank, y)

  module _ (s : ℕ) (y : t ≡ false) (es : s ≡ get_or p 0 32) where
    sign : get_or (pad_to 6 p) 0 32 ≡ s
    sign = get_d-pad 6 p 0 32 (lit< tt) ∙ sym es

    pub time-none : (s ≡ 32 → ⊥) → (s ≡ 45 → ⊥) → NoTime ≡ time_in (pad_to 6 p)
    unfolding time_in
    time-none u v = rw (all-blank, y, sign, ne_eqb s 32 u, ne_eqb s 45 v)

    module _ (q : List ℕ) (r : Time) (eq : q ≡ take 5 (drop 1 p)) where
      rest : pad_to 5 q ≡ drop 1 (pad_to 6 p)
      unfolding pad_to
      rest = ap (pad_to 5) eq ∙ pad-take 5 (drop 1 p) ∙ tail p
        where
          tail : (l : List ℕ) → pad_to 5 (drop 1 l) ≡ drop 1 (pad_to 6 l)
          tail [] = refl
          tail (b ∷ l) = refl

      pub time-plain : s ≡ 32 → r ≡ clock false (pad_to 5 q) → r ≡ time_in (pad_to 6 p)
      unfolding time_in
      time-plain u d = d ∙ ap (clock false) rest ∙ sym (rw (all-blank, y, sign ∙ u))

      pub time-barred : s ≡ 45 → r ≡ clock true (pad_to 5 q) → r ≡ time_in (pad_to 6 p)
      unfolding time_in
      time-barred u d = d ∙ ap (clock true) rest ∙ sym (rw (all-blank, y, sign ∙ u))

module _ (p : List ℕ) (t : Bool) (et : t ≡ every (is_of (Byte 32)) (pad_to 7 p)) where
  no_end : blank (pad_to 7 p) ≡ t
  no_end = sym et

  pub end-outer : t ≡ true → Outer ≡ range_end_in (pad_to 7 p)
  unfolding range_end_in
  end-outer y = rw (no_end, y)

  module _ (u : Bool) (y : t ≡ false) (eu : u ≡ every (is_of Digit) (pad_to 7 p)) where
    stop : digits (pad_to 7 p) ≡ u
    stop = sym eu

    pub end-stop : (n : ℕ) → u ≡ true → n ≡ number (pad_to 7 p) → Stop (record { 0 = n }) ≡ range_end_in (pad_to 7 p)
    unfolding range_end_in
    end-stop n z en = rw (no_end, y, stop, z, sym en)

    pub end-index : (h : Option ℕ) (r : RangeEnd) → u ≡ false → h ≡ hash (pad_to 7 p) → r ≡ index_by h → r ≡ range_end_in (pad_to 7 p)
    unfolding range_end_in
    end-index h r z eh d = rw (no_end, y, stop, z, sym eh, d)

pub detail-read : (p : List ℕ) (h : Option ℕ) (t : Time) (d r : Detail) → h ≡ hash (pad_to 6 p) → t ≡ time_in (pad_to 6 p) → d ≡ timed_by t → r ≡ nth_by h d → r ≡ detail_in (pad_to 6 p)
unfolding detail_in
detail-read p h t d r eh et ed er = rw (er, ed, et, eh)

-- blank columns have no "#"
blank-hash : (p : List ℕ) → blank p ≡ true → hash p ≡ None
unfolding hash every
blank-hash [] e = refl
blank-hash (b ∷ p) e = go (is_blank b) e (blank-hash p)
  where
    go : (t : Bool) → (t && blank p) ≡ true → (blank p ≡ true → hash p ≡ None) → cond t (hash p) (cond (eqb b 35) (after_hash p) None) ≡ None
    go true y ih = ih y
    go false y ih = clash y

-- t says whether all six are blank
pub detail-blank : (p : List ℕ) (t : Bool) → t ≡ every (is_of (Byte 32)) (pad_to 6 p) → t ≡ true → Plain ≡ detail_in (pad_to 6 p)
unfolding detail_in time_in
detail-blank p t e y =
    let z : blank (pad_to 6 p) ≡ true = sym e ∙ y in
    rw (blank-hash (pad_to 6 p) z, z)

pub ruleset readers = (detail-blank, tests, clock-none, clock-late, clock-said, time-absent, time-none, time-plain, time-barred, end-outer, end-stop, end-index, detail-read)
