-- A form read row by row: what each step asks, and the usual lines of BITFELD, BAHNHOF, UMSTEIGB and ZUGART. For callers: `step-next`, `step-gap`,
-- `step-wide` (a row behind none, one or several columns that no field names), `end-fit`, `fit`. Assumes nothing.
use mathlib.Core.Path.{◌≡◌, refl, ap, sym, ◌∙◌}
use mathlib.Core.List.{List, [], ◌∷◌}
use mathlib.Core.Bool.{Bool, true, false, cond, ◌&&◌}
use Prim.Native.Nat.{ℕ, zero, suc, ◌+◌, ◌-◌, ◌≤◌}
use native.Mathlib.Omega.{arith}
use lib.ListN.{length, get_or, drop}
use lib.Dec.{eqb}
use Rattle.base.proofs.Laws.{tests, clash}
use Rattle.columns.proofs.Laws.{blank-past}
use Rattle.base.specs.Lists.{every}
use Rattle.columns.specs.Columns.{pad_to, columns, is_blank, blank}
use Rattle.forms.specs.Form.{most_file_bytes, FieldRule, has_form, form_of, is_fit, before, broken_unless, stray_from, unnamed, row_form, form_from, Form, Fits, Broken as BrokenForm}
use Rattle.forms.specs.Columns.{bit_field_columns, stop_columns, interchange_columns, class_columns, columns_of}
use Rattle.forms.specs.Inner.Usual.{bit_field_fits, stop_fits, interchange_fits, class_fits, tariff_fits, supplement_fits}
use Rattle.forms.specs.declared.LineKind.{LineKind}

-- ---- a chain of tests, for `search chained`: t is what a test said

module _ (t x : Bool) (e : t ≡ x) where
  pub and-true : (r y : Bool) → t ≡ true → r ≡ y → r ≡ (x && y)
  and-true r y h d = rw (← e, h) d

  pub and-false : (y : Bool) → t ≡ false → false ≡ (x && y)
  and-false y h = rw (← e, h)

pub byte-test : (x v m : ℕ) → x ≡ v → eqb x m ≡ eqb v m
byte-test x v m e = rw e

pub ruleset chained = (tests, and-true, and-false, byte-test)

-- ---- row by row

fit-before : (f g : Form) → is_fit (before f g) ≡ (is_fit f && is_fit g)
fit-before Fits g = refl
fit-before (BrokenForm c) g = refl

fit-named : (a : ℕ) (t : Bool) → is_fit (broken_unless a t) ≡ t
fit-named a true = refl
fit-named a false = refl

-- one column that no field names, and none
one-gap : (c e : ℕ) (l : List ℕ) → e - c ≡ 1 → is_fit (unnamed c e l) ≡ is_blank (get_or l c 32)
unfolding unnamed stray_from
one-gap c e l h = rw h (go (drop c l) ∙ ap is_blank (at c l))
  where
    bit : (b : Bool) → is_fit (cond b Fits (BrokenForm (c + 1))) ≡ b
    bit true = refl
    bit false = refl

    go : (m : List ℕ) → is_fit (stray_from (c + 1) 1 m) ≡ is_blank (get_or m 0 32)
    go [] = refl
    go (b ∷ m) = bit (is_blank b)

    at : (i : ℕ) (l : List ℕ) → get_or (drop i l) 0 32 ≡ get_or l i 32
    at zero l = refl
    at (suc i) [] = refl
    at (suc i) (b ∷ l) = at i l

no_gap : (c e : ℕ) (l : List ℕ) → e - c ≡ 0 → is_fit (unnamed c e l) ≡ true
unfolding unnamed stray_from
no_gap c e l h = rw h

pub row-fit : (c : ℕ) (x : FieldRule) (xs : List FieldRule) (l : List ℕ) → is_fit (form_from c (x ∷ xs) l) ≡ (is_fit (unnamed c (x.from - 1) l) && (x.rule l (columns x.from x.to l) && is_fit (form_from x.to xs l)))
unfolding form_from row_form
row-fit c x xs l = rw (fit-before, fit-before, fit-named) (assoc (is_fit (unnamed c (x.from - 1) l)) (x.rule l (columns x.from x.to l)) (is_fit (form_from x.to xs l)))
  where
    assoc : (a b d : Bool) → ((a && b) && d) ≡ (a && (b && d))
    assoc true b d = refl
    assoc false b d = refl

pub end-fit : (c : ℕ) (l : List ℕ) → length l ≤ c → is_fit (form_from c [] l) ≡ true
unfolding form_from
end-fit c l h = no_gap c (length l) l (omega arith)

module _ (c : ℕ) (x : FieldRule) (xs : List FieldRule) (l : List ℕ) where
  abbrev pub asked : Bool
  asked = x.rule l (columns x.from x.to l)

  pub step-gap : (y : Bool) → x.from - 1 - c ≡ 1 → is_fit (form_from x.to xs l) ≡ y → is_fit (form_from c (x ∷ xs) l) ≡ (is_blank (get_or l c 32) && (asked && y))
  step-gap y h e = rw (row-fit, one-gap c (x.from - 1) l h, e)

  pub step-next : (y : Bool) → x.from - 1 - c ≡ 0 → is_fit (form_from x.to xs l) ≡ y → is_fit (form_from c (x ∷ xs) l) ≡ (asked && y)
  step-next y h e = rw (row-fit, no_gap c (x.from - 1) l h, e)

pub and_one : (b : Bool) → (b && true) ≡ b
and_one true = refl
and_one false = refl

-- a row behind one column that no field names, where nothing more is asked
step-last : (c : ℕ) (x : FieldRule) (xs : List FieldRule) (l : List ℕ) → x.from - 1 - c ≡ 1 → is_fit (form_from x.to xs l) ≡ true
    → is_fit (form_from c (x ∷ xs) l) ≡ (is_blank (get_or l c 32) && x.rule l (columns x.from x.to l))
step-last c x xs l h e = step-gap c x xs l true h e ∙ ap (λ (b : Bool). is_blank (get_or l c 32) && b) (and_one (x.rule l (columns x.from x.to l)))

pub fit : (g : Form) → is_fit g ≡ true → g ≡ Fits
fit Fits e = refl
fit (BrokenForm c) e = clash e

-- ---- several columns that no field names

stray-blank : (c w : ℕ) (l : List ℕ) → is_fit (stray_from c w l) ≡ blank (pad_to w l)
unfolding stray_from pad_to every
stray-blank c zero l = refl
stray-blank c (suc w) [] = sym (blank-past w)
stray-blank c (suc w) (b ∷ l) = go (is_blank b) (stray-blank (c + 1) w l)
  where
    go : (t : Bool) → is_fit (stray_from (c + 1) w l) ≡ blank (pad_to w l) → is_fit (cond t (stray_from (c + 1) w l) (BrokenForm c)) ≡ (t && blank (pad_to w l))
    go true e = e
    go false e = refl

wide-gap : (c e : ℕ) (l : List ℕ) → is_fit (unnamed c e l) ≡ blank (pad_to (e - c) (drop c l))
unfolding unnamed
wide-gap c e l = stray-blank (c + 1) (e - c) (drop c l)

pub step-wide : (c : ℕ) (x : FieldRule) (xs : List FieldRule) (l : List ℕ) (y : Bool) → is_fit (form_from x.to xs l) ≡ y
    → is_fit (form_from c (x ∷ xs) l) ≡ (blank (pad_to (x.from - 1 - c) (drop c l)) && (x.rule l (columns x.from x.to l) && y))
step-wide c x xs l y e = rw (row-fit, wide-gap c (x.from - 1) l, e)

-- ---- usual lines

bit-field-same : (l : List ℕ) → length l ≤ 103 → has_form bit_field_columns l ≡ bit_field_fits l
unfolding bit_field_fits
bit-field-same l h =
    step-next 0 _ _ l _ refl (step-last 6 _ _ l refl (end-fit 103 l h))

stop-same : (l : List ℕ) → length l ≤ most_file_bytes → has_form stop_columns l ≡ stop_fits l
unfolding stop_fits
stop-same l h =
    step-next 0 _ _ l _ refl
    (step-gap 7 _ _ l _ refl
    (step-last 11 _ _ l refl (step-next 62 _ _ l true refl (end-fit most_file_bytes l h))))

interchange-same : (l : List ℕ) → length l ≤ most_file_bytes → has_form interchange_columns l ≡ interchange_fits l
unfolding interchange_fits
interchange-same l h =
    step-next 0 _ _ l _ refl
    (step-gap 7 _ _ l _ refl
    (step-gap 10 _ _ l _ refl
    (step-gap 13 _ _ l true refl (end-fit most_file_bytes l h) ∙ and_one _)))

class_same : (l : List ℕ) → length l ≤ most_file_bytes → has_form class_columns l ≡ class_fits l
unfolding class_fits tariff_fits supplement_fits
class_same l h =
    step-next 0 _ _ l _ refl
    (step-gap 3 _ _ l _ refl
    (step-gap 6 _ _ l _ refl
    (step-gap 8 _ _ l _ refl
    (step-gap 10 _ _ l _ refl
    (step-gap 19 _ _ l _ refl
    (step-gap 21 _ _ l _ refl
    (step-gap 23 _ _ l true refl (end-fit most_file_bytes l h) ∙ and_one _)))))))

-- ---- for `search usual`: t is what the columns said, u what is answered

module _ (l : List ℕ) (t : Bool) where
  pub bit-field-usual : length l ≡ 103 → t ≡ bit_field_fits l → t ≡ true → form_of bit_field_columns l ≡ Fits
  bit-field-usual h e y = fit (form_of bit_field_columns l) (bit-field-same l (omega arith) ∙ sym e ∙ y)

  pub stop-usual : length l ≤ most_file_bytes → t ≡ stop_fits l → t ≡ true → form_of stop_columns l ≡ Fits
  stop-usual h e y = fit (form_of stop_columns l) (stop-same l h ∙ sym e ∙ y)

  pub interchange-usual : length l ≤ most_file_bytes → t ≡ interchange_fits l → t ≡ true → form_of interchange_columns l ≡ Fits
  interchange-usual h e y = fit (form_of interchange_columns l) (interchange-same l h ∙ sym e ∙ y)

  pub class-usual : length l ≤ most_file_bytes → t ≡ class_fits l → t ≡ true → form_of class_columns l ≡ Fits
  class-usual h e y = fit (form_of class_columns l) (class_same l h ∙ sym e ∙ y)

pub not-usual : (f : Form) → false ≡ true → f ≡ Fits
not-usual f e = clash e

pub of-usual : (l : List ℕ) (kind k : LineKind) (t : Bool) → kind ≡ k → (t ≡ true → form_of (columns_of k) l ≡ Fits) → t ≡ true → form_of (columns_of kind) l ≡ Fits
of-usual l kind k t e v y = rw e (v y)

pub is-usual : (f : Form) (t : Bool) → t ≡ true → (t ≡ true → f ≡ Fits) → Fits ≡ f
is-usual f t y v = sym (v y)

pub ruleset usual = (tests, bit-field-usual, stop-usual, interchange-usual, class-usual, not-usual, of-usual, is-usual)
