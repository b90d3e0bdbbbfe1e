-- Laws of forms. For callers: `row-holds` (what the row at a place asks holds of a line that has the form), `fits-form`, `from-one-says`. Assumes nothing.
use mathlib.Core.Path.{◌≡◌, refl, ap, ◌∙◌, sym}
use mathlib.Core.List.{List, [], ◌∷◌}
use mathlib.Core.Bool.{Bool, true, false, not, ◌&&◌, ◌||◌}
use Prim.Native.Nat.{ℕ, zero, suc, ◌+◌, ◌-◌, ◌*◌, ◌≤◌, ◌<◌}
use native.Mathlib.Omega.{arith}
use lib.ListN.{length, get_or, drop, drop_of_length-le}
use lib.Dec.{leb, eqb}
use borrow.Author.Tests.{eq-eqb, eqb-true, le-leb, ne_eqb, eqb-false, leb-true, not-true}
use Rattle.base.specs.Lists.{every}
use Rattle.base.proofs.Laws.{clash, drop-next, tests}
use Rattle.base.proofs.Loops.{and-true}
use Rattle.columns.specs.Columns as C
use Rattle.columns.specs.Columns.{is_digit, digit_value, digits, number_from, number}
use Rattle.columns.proofs.Laws.{number-grows}
use Rattle.forms.specs.Form.{Form, Fits, Broken, FieldRule, column_rule, free, offset_of, from_one, before, stray_from, unnamed, broken_unless, row_form, form_from, form_of, is_fit, has_form}
use Rattle.forms.specs.Columns.{columns_of}
use Rattle.forms.specs.declared.LineKind.{LineKind}
use Rattle.forms.specs.Inner.Rows.{rule_of, from_of, to_of, row_of, rule_number, with_rule, rows_of}

-- ---- unnamed columns of the line l up to column e, for `search forms`

module _ (l : List ℕ) (e i : ℕ) (r : Form) (v : unnamed i e l ≡ r) where
  left : i < e → e - i ≡ suc (e - (i + 1))
  left h = omega arith

  pub gap-again : i < e → i < length l → get_or l i 0 ≡ 32 → unnamed (i + 1) e l ≡ r
  unfolding unnamed stray_from
  gap-again h k t = sym (rw (left h, drop-next l i (get_or l i 0) k refl, eq-eqb (get_or l i 0) 32 t)) ∙ v

  pub gap-out : i < e → i < length l → (get_or l i 0 ≡ 32 → ⊥) → Broken (i + 1) ≡ r
  unfolding unnamed stray_from
  gap-out h k t = sym (rw (left h, drop-next l i (get_or l i 0) k refl, ne_eqb (get_or l i 0) 32 t)) ∙ v

  pub gap-short : length l ≤ i → Fits ≡ r
  unfolding unnamed stray_from
  gap-short h = sym (rw (drop_of_length-le l {i = i} h) (none (i + 1) (e - i))) ∙ v
    where
      none : (c w : ℕ) → stray_from c w [] ≡ Fits
      none c zero = refl
      none c (suc w) = refl

  pub gap-done : e ≤ i → Fits ≡ r
  unfolding unnamed stray_from
  gap-done h = sym (rw none) ∙ v
    where
      none : e - i ≡ 0
      none = omega arith

-- ---- rows

module _ (line : List ℕ) (done from to a k m : ℕ) (u : Form) (ea : a ≡ from - 1) (eu : u ≡ unnamed done a line) where
  abbrev row : FieldRule
  row = record { from = from; to = to; rule = rule_of k m }

  pub row_out : (x : ℕ) → u ≡ Broken x → Broken x ≡ row_form done row line
  unfolding row_form
  row_out x b = rw (sym ea, sym eu, b)

  module _ (t : Bool) (f : u ≡ Fits) (et : t ≡ rule_of k m line (C.columns from to line)) where
    pub row_fits : t ≡ true → Fits ≡ row_form done row line
    unfolding row_form
    row_fits y = rw (sym ea, sym eu, f, sym et, y)

    pub row-broken : t ≡ false → Broken from ≡ row_form done row line
    unfolding row_form
    row-broken y = rw (sym ea, sym eu, f, sym et, y)

pub packed-row : (line : List ℕ) (done x e : ℕ) (r : Form) → e ≡ to_of x → r ≡ row_form done (record { from = from_of x; to = e; rule = rule_of (rule_number x) (with_rule x) }) line → r ≡ row_form done (row_of x) line
packed-row line done x e r d v = v ∙ ap (λ (b : ℕ). row_form done (record { from = from_of x; to = b; rule = rule_of (rule_number x) (with_rule x) }) line) d

-- ---- tables

module _ (line t : List ℕ) (done i : ℕ) (r : Form) (v : form_from done (rows_of (drop i t)) line ≡ r) where
  module _ (x : ℕ) (f : Form) (h : i < length t) (ex : x ≡ get_or t i 0) (ef : f ≡ row_form done (row_of x) line) where
    step : form_from done (rows_of (drop i t)) line ≡ before f (form_from (to_of x) (rows_of (drop (i + 1) t)) line)
    unfolding form_from rows_of
    step = rw (drop-next t i x h ex, ef)

    pub form-again : (b : ℕ) → b ≡ to_of x → f ≡ Fits → form_from b (rows_of (drop (i + 1) t)) line ≡ r
    form-again b eb g = rw eb (sym (step ∙ ap (λ (z : Form). before z (form_from (to_of x) (rows_of (drop (i + 1) t)) line)) g) ∙ v)

    pub form-out : (c : ℕ) → f ≡ Broken c → Broken c ≡ r
    form-out c g = sym (step ∙ ap (λ (z : Form). before z (form_from (to_of x) (rows_of (drop (i + 1) t)) line)) g) ∙ v

  pub form-done : (f : Form) → length t ≤ i → f ≡ unnamed done (length line) line → f ≡ r
  unfolding form_from rows_of
  form-done f h e = e ∙ sym (rw (drop_of_length-le t {i = i} h)) ∙ v

pub ruleset forms = (tests, gap-again, gap-out, gap-short, gap-done, row_out, row_fits, row-broken, packed-row, form-again, form-out, form-done)

-- ---- what a line that has the form is known to have

-- what a row asks of a line
abbrev pub Holds : FieldRule → List ℕ → Type 0
Holds x line = x.rule line (C.columns x.from x.to line) ≡ true

-- the row at place i, from 0; past the last a row that asks nothing
abbrev pub row_at : ℕ → List FieldRule → FieldRule
row_at i rows = get_or rows i (column_rule 0 free)

pub row-holds : (rows : List FieldRule) (line : List ℕ) (i : ℕ) → form_of rows line ≡ Fits → Holds (row_at i rows) line
unfolding row_form form_from
row-holds rows line i e = go 0 rows i e
  where
    first : (f g : Form) → before f g ≡ Fits → f ≡ Fits
    first Fits g e = refl
    first (Broken c) g e = e

    rest : (f g : Form) → before f g ≡ Fits → g ≡ Fits
    rest Fits g e = e
    rest (Broken c) g e = cc

    asked : (a : ℕ) (t : Bool) → broken_unless a t ≡ Fits → t ≡ true
    asked a true e = refl
    asked a false e = cc

    go : (c : ℕ) (rows : List FieldRule) (i : ℕ) → form_from c rows line ≡ Fits → Holds (row_at i rows) line
    go c [] zero e = refl
    go c [] (suc i) e = refl
    go c (x ∷ xs) zero e =
        let f : row_form c x line ≡ Fits = first (row_form c x line) (form_from x.to xs line) e in
        asked x.from _ (rest (unnamed c (x.from - 1) line) _ f)
    go c (x ∷ xs) (suc i) e = go x.to xs i (rest (row_form c x line) (form_from x.to xs line) e)

pub fits-form : (rows : List FieldRule) (line : List ℕ) → has_form rows line ≡ true → form_of rows line ≡ Fits
fits-form rows line e = go (form_of rows line) e
  where
    go : (f : Form) → is_fit f ≡ true → f ≡ Fits
    go Fits e = refl
    go (Broken c) e = cc

-- ---- digits that are not all "0" say at least 1

some-digit : (n : ℕ) (p : List ℕ) → digits p ≡ true → every (λ (b : ℕ). eqb b 48) p ≡ false → 1 ≤ number_from n p
unfolding every number_from
some-digit n [] d z = clash (sym z)
some-digit n (b ∷ p) d z = go (eqb b 48) refl (some-digit (n * 10 + digit_value b) p (and-true (is_digit b) (digits p) d).1)
  where
    go : (t : Bool) → eqb b 48 ≡ t → (every (λ (b : ℕ). eqb b 48) p ≡ false → 1 ≤ number_from (n * 10 + digit_value b) p) → 1 ≤ number_from (n * 10 + digit_value b) p
    go true q more = more (rw q at z)
    go false q more =
        let c = (and-true (is_digit b) (digits p) d).0 in
        let v : digit_value b ≡ b - 48 = rw c refl in
        let l = leb-true 48 b (and-true _ _ c).0 in
        let x = eqb-false b 48 q in
        omega (arith, x, number-grows (n * 10 + digit_value b) p)

pub from-one-says : (line p : List ℕ) → from_one line p ≡ true → 1 ≤ number p
from-one-says line p e = let (d, z) = and-true (digits p) (not (every (λ (b : ℕ). eqb b 48) p)) e in some-digit 0 p d (not-true _ z)

-- a test denied twice
twice : (t : Bool) → t ≡ not (not t)
twice true = refl
twice false = refl

-- and all "0" say 0
pub zeros-say : (n : ℕ) (p : List ℕ) → n ≡ 0 → every (λ (b : ℕ). eqb b 48) p ≡ true → number_from n p ≡ 0
unfolding every number_from
zeros-say n [] o e = o
zeros-say n (b ∷ p) o e =
    let h = and-true (eqb b 48) (every (λ (b : ℕ). eqb b 48) p) e in
    let v : digit_value b ≡ 0 = rw (eqb-true b 48 h.0) refl in
    zeros-say (n * 10 + digit_value b) p (omega (arith, v, o)) h.1

-- The paper's words: "at least 1", "one or more". Of digits, "not all 0" is exactly that their number is at least 1.
pub one-or-more : (p : List ℕ) → digits p ≡ true → not (every (λ (b : ℕ). eqb b 48) p) ≡ leb 1 (number p)
one-or-more p d = go (every (λ (b : ℕ). eqb b 48) p) refl
  where
    go : (t : Bool) → every (λ (b : ℕ). eqb b 48) p ≡ t → not t ≡ leb 1 (number p)
    go true e = rw (zeros-say 0 p refl e) refl
    go false e = sym (le-leb 1 (number p) (some-digit 0 p d e))

-- "density is at least 1"
pub from-one-is : (line p : List ℕ) → from_one line p ≡ digits p && leb 1 (number p)
from-one-is line p = go (digits p) refl
  where
    go : (t : Bool) → digits p ≡ t → t && not (every (λ (b : ℕ). eqb b 48) p) ≡ t && leb 1 (number p)
    go true e = one-or-more p e
    go false e = refl

-- "One or more repeats need an offset of at least 1, else 4." The repeats, digits, stand in the three columns from c; the offset p beside them
pub offset-is : (c : ℕ) (line p : List ℕ) → C.blank (C.columns c (c + 2) line) ≡ false → digits (C.columns c (c + 2) line) ≡ true
    → offset_of c line p ≡ digits p && (not (leb 1 (number (C.columns c (c + 2) line))) || leb 1 (number p))
offset-is c line p b d = go (digits p) refl
  where
    zero_is : every (λ (b : ℕ). eqb b 48) (C.columns c (c + 2) line) ≡ not (leb 1 (number (C.columns c (c + 2) line)))
    zero_is = twice (every (λ (b : ℕ). eqb b 48) (C.columns c (c + 2) line)) ∙ ap not (one-or-more (C.columns c (c + 2) line) d)

    go : (t : Bool) → digits p ≡ t → offset_of c line p ≡ t && (not (leb 1 (number (C.columns c (c + 2) line))) || leb 1 (number p))
    go true e = rw (b, e, zero_is, one-or-more p e) refl
    go false e = rw (b, e) refl

-- ---- the form of a kind of line, for `line_form`

pub of_kind : (line : List ℕ) {kind k : LineKind} {r : Form} → kind ≡ k → r ≡ form_of (columns_of k) line → r ≡ form_of (columns_of kind) line
of_kind line e v = v ∙ ap (λ (x : LineKind). form_of (columns_of x) line) (sym e)
