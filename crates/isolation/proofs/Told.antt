-- What a changed line says: the same, with its bit field number changed. Assumes nothing.
use mathlib.Core.Path.{◌≡◌, refl, sym, ap, ◌∙◌}
use mathlib.Core.List.{List, [], ◌∷◌, ◌++◌}
use mathlib.Core.Bool.{Bool, true, false, cond, ◌||◌}
use Prim.Native.Nat.{ℕ, ◌-◌, ◌<◌}
use native.Mathlib.Omega.{arith}
use lib.ListN.{length, take, drop}
use lib.Dec.{eqb, leb}
use borrow.Author.Tests.{eqb-true, ne_eqb, leb-true}
use Rattle.base.specs.Lists.{every}
use Rattle.base.proofs.Laws.{apart, clash}
use Rattle.base.proofs.Loops.{and-true}
use Rattle.columns.specs.Columns.{pad_to, columns, column, is_digit, digit_value, is_blank, blank, digits, number, number_from}
use Rattle.lines.specs.Lines.{Line, skipped}
use Rattle.forms.specs.Form.{FieldRule, field_rule as row, digits_only as digits_rule, or_blank, unnamed, row_form, form_from, form_of, before, broken_unless, Form, Fits, Broken as BrokenForm}
use Rattle.forms.specs.Columns.{bit_field_columns, service_columns, frequency_columns, category_columns, attribute_columns, call_columns}
use Rattle.forms.specs.Kinds.{starred, kind_of}
use Rattle.forms.specs.declared.Kind.{Kind}
use Rattle.forms.specs.declared.Kind.TheVariants.{Opening as OpeningKind, Frequency, Category as CategoryKind, Attribute, Schedule, Other as OtherKind}
use Rattle.bitfield.specs.BitField.{bits_in}
use Rattle.timetable.specs.Delivery.{BitField}
use Rattle.timetable.specs.Files.{Held, skip, broken, held, held_by, bit_field_of}
use Rattle.timetable.specs.Plan.{opening_in, frequency_in, category_in, attribute_in, call_in, formed, told_by, told_in}
use Rattle.timetable.specs.declared.RangeLine.{RangeLine}
use Rattle.timetable.specs.declared.Told.{Told}
use Rattle.timetable.specs.declared.Told.TheVariants.{Skip, Other, Broken, Opens, Ranges, Calls}
use Rattle.isolation.specs.Rename.{renumbered, is_attribute, field_line, plan_line}
use Rattle.isolation.proofs.Columns.{SameBut, same_length, column-before, columns-before, columns-behind, unnamed-before, unnamed-behind}
use Rattle.isolation.proofs.Texts.{digits-changed, now-digits, now-number, same_line}
use Rattle.isolation.proofs.Each.{on_text}

-- ---- what is said, with other numbers

abbrev pub range_for : (ℕ → ℕ) → RangeLine → RangeLine
range_for σ r = record { part = r.part; name = r.name; field = σ r.field; ends = r.ends }

abbrev pub told_for : (ℕ → ℕ) → Told → Told
told_for σ Skip = Skip
told_for σ Other = Other
told_for σ (Broken c) = Broken c
told_for σ (Opens o) = Opens o
told_for σ (Ranges r) = Ranges (range_for σ r)
told_for σ (Calls c) = Calls c

abbrev pub field_for : (ℕ → ℕ) → BitField → BitField
field_for σ f = record { number = σ f.number; words = f.words }

abbrev pub held_for : (ℕ → ℕ) → Held BitField → Held BitField
held_for σ skip = skip
held_for σ (broken c) = broken c
held_for σ (held f) = held (field_for σ f)

-- ---- the form of an *A line

-- broken where a later rule is
later-broken : (f g : Form) → (c : ℕ) × (g ≡ BrokenForm c) → (c : ℕ) × (before f g ≡ BrokenForm c)
later-broken Fits g q = q
later-broken (BrokenForm c) g q = (c, refl)

here-broken : (f g : Form) → (c : ℕ) × (f ≡ BrokenForm c) → (c : ℕ) × (before f g ≡ BrokenForm c)
here-broken f g q = (q.0, rw q.1)

-- where a rule is broken, so is the form
broken-row : (c : ℕ) (xs : List FieldRule) (x : FieldRule) (ys : List FieldRule) (line : List ℕ) → x.rule line (columns x.from x.to line) ≡ false → (k : ℕ) × (form_from c (xs ++ (x ∷ ys)) line ≡ BrokenForm k)
unfolding form_from row_form
broken-row c [] x ys line e =
    here-broken (row_form c x line) (form_from x.to ys line)
    (later-broken (unnamed c (x.from - 1) line) (broken_unless x.from (x.rule line (columns x.from x.to line))) (x.from, rw e))
broken-row c (z ∷ xs) x ys line e = later-broken (row_form c z line) (form_from z.to (xs ++ (x ∷ ys)) line) (broken-row z.to xs x ys line e)

blank-byte : (b : ℕ) → is_blank b ≡ true → digit_value b ≡ 0
blank-byte b e = rw (eqb-true b 32 e)

blank-number : (p : List ℕ) → blank p ≡ true → number p ≡ 0
unfolding every number_from
blank-number [] h = refl
blank-number (b ∷ p) h = let q = and-true (is_blank b) (blank p) h in rw (blank-byte b q.0) (blank-number p q.1)

module _ (t s : List ℕ) (h : SameBut 22 6 t s) (d : digits (columns 23 28 t) ≡ true) (d' : digits (columns 23 28 s) ≡ true) where
  digits-or-blank : (p : List ℕ) → digits p ≡ true → blank p || digits p ≡ true
  digits-or-blank p e = go (blank p)
    where
      go : (b : Bool) → b || digits p ≡ true
      go true = refl
      go false = e

  attribute-form : form_of attribute_columns t ≡ form_of attribute_columns s
  unfolding form_from row_form
  attribute-form = rw (
    unnamed-before 22 6 t s h 0 0 (omega arith) (omega arith),
    unnamed-before 22 6 t s h 3 3 (omega arith) (omega arith),
    columns-before 22 6 t s h 4 5 (omega arith) (omega arith) (omega arith),
    unnamed-before 22 6 t s h 5 6 (omega arith) (omega arith),
    columns-before 22 6 t s h 7 13 (omega arith) (omega arith) (omega arith),
    unnamed-before 22 6 t s h 13 14 (omega arith) (omega arith),
    columns-before 22 6 t s h 15 21 (omega arith) (omega arith) (omega arith),
    unnamed-before 22 6 t s h 21 22 (omega arith) (omega arith),
    digits-or-blank (columns 23 28 t) d,
    digits-or-blank (columns 23 28 s) d',
    unnamed-behind 22 6 t s h 28 29 (omega arith),
    columns-behind 22 6 t s h 30 35 (omega arith),
    unnamed-behind 22 6 t s h 35 36 (omega arith),
    columns-behind 22 6 t s h 37 42 (omega arith),
    unnamed-behind 22 6 t s h 42 58 (omega arith),
    columns-behind 22 6 t s h 59 59 (omega arith),
    unnamed-behind 22 6 t s h 59 59 (omega arith),
    same_length 22 6 t s h,
    unnamed-behind 22 6 t s h 16777216 (length s) (omega arith),
  )

  attribute-in : (σ : ℕ → ℕ) → number (columns 23 28 s) ≡ σ (number (columns 23 28 t)) → attribute_in s ≡ range_for σ (attribute_in t)
  attribute-in σ n = rw (
    column-before 22 6 t s h 4 (omega arith) (omega arith),
    column-before 22 6 t s h 5 (omega arith) (omega arith),
    columns-before 22 6 t s h 7 13 (omega arith) (omega arith) (omega arith),
    columns-before 22 6 t s h 15 21 (omega arith) (omega arith) (omega arith),
    columns-behind 22 6 t s h 30 35 (omega arith),
    columns-behind 22 6 t s h 37 42 (omega arith),
    n,
  )

  kind-kept : kind_of t ≡ kind_of s
  unfolding kind_of
  kind-kept = rw (
    column-before 22 6 t s h 1 (omega arith) (omega arith),
    column-before 22 6 t s h 2 (omega arith) (omega arith),
    column-before 22 6 t s h 3 (omega arith) (omega arith),
  )

-- ---- lines that are not skipped

first_says : (t : List ℕ) → eqb (column 1 t) 37 ≡ false → is_blank (column 1 t) ≡ false → skipped t ≡ false
unfolding skipped every
first_says [] e b = clash (sym b)
first_says (x ∷ t) e b = rw (e, b)

star-says : (t : List ℕ) → kind_of t ≡ Attribute → skipped t ≡ false
unfolding kind_of
star-says t e = go (eqb (column 1 t) 42) refl e
  where
    go : (b : Bool) → eqb (column 1 t) 42 ≡ b → cond b (starred (column 2 t) (column 3 t)) (cond (is_digit (column 1 t)) Schedule OtherKind) ≡ Attribute → skipped t ≡ false
    go true q x = let z = eqb-true (column 1 t) 42 q in first_says t (ne_eqb (column 1 t) 37 (λ y. omega (arith, y, z))) (ne_eqb (column 1 t) 32 (λ y. omega (arith, y, z)))
    go false q x = other (is_digit (column 1 t)) x
      where
        other : (d : Bool) → cond d Schedule OtherKind ≡ Attribute → skipped t ≡ false
        other true x = apart (cc)
        other false x = apart (cc)

digit-says : (t : List ℕ) → digits (columns 1 6 t) ≡ true → skipped t ≡ false
unfolding columns pad_to every
digit-says [] e = clash e
digit-says (b ∷ t) e =
    let d = and-true (leb 48 b) (leb b 57) (and-true (is_digit b) (digits (pad_to 5 t)) e).0 in
    let z = leb-true 48 b d.0 in
    first_says (b ∷ t) (ne_eqb b 37 (λ y. omega (arith, y, z))) (ne_eqb b 32 (λ y. omega (arith, y, z)))

-- ---- FPLAN

-- neither blank nor digits
bad-attribute : (t : List ℕ) → digits (columns 23 28 t) ≡ false → blank (columns 23 28 t) ≡ false → (c : ℕ) × (form_of attribute_columns t ≡ BrokenForm c)
bad-attribute t d b = broken-row 0 (take 4 attribute_columns) (row 23 28 (or_blank digits_rule)) (drop 5 attribute_columns) t (rw (b, d))

module _ (σ : ℕ → ℕ) (six : (n : ℕ) → n < 1000000 → σ n < 1000000) (kept : σ 0 ≡ 0) where
  -- an *A line whose bit field is no number: blank, or its form is broken
  unnumbered : (t : List ℕ) → digits (columns 23 28 t) ≡ false → formed (form_of attribute_columns t) (Ranges (attribute_in t)) ≡ told_for σ (formed (form_of attribute_columns t) (Ranges (attribute_in t)))
  unnumbered t d = go (blank (columns 23 28 t)) refl
    where
      stays : (f : Form) (c : ℕ) → f ≡ BrokenForm c → (x : RangeLine) → formed f (Ranges x) ≡ told_for σ (formed f (Ranges x))
      stays f c e x = rw e refl

      as_is : (f : Form) (x : RangeLine) → x ≡ range_for σ x → formed f (Ranges x) ≡ told_for σ (formed f (Ranges x))
      as_is Fits x e = ap Ranges e
      as_is (BrokenForm c) x e = refl

      go : (b : Bool) → blank (columns 23 28 t) ≡ b → formed (form_of attribute_columns t) (Ranges (attribute_in t)) ≡ told_for σ (formed (form_of attribute_columns t) (Ranges (attribute_in t)))
      go true q = as_is (form_of attribute_columns t) (attribute_in t) (rw (blank-number (columns 23 28 t) q, kept))
      go false q = let z = bad-attribute t d q in stays (form_of attribute_columns t) z.0 z.1 (attribute_in t)

  plan-attribute : (t : List ℕ) → kind_of t ≡ Attribute → told_in (renumbered σ 23 t) ≡ told_for σ (told_in t)
  unfolding told_in
  plan-attribute t k = go (digits (columns 23 28 t)) refl
    where
      both : (f : Form) (x y : RangeLine) → x ≡ range_for σ y → formed f (Ranges x) ≡ told_for σ (formed f (Ranges y))
      both Fits x y e = ap Ranges e
      both (BrokenForm c) x y e = refl

      said : (t : List ℕ) → kind_of t ≡ Attribute → told_in t ≡ formed (form_of attribute_columns t) (Ranges (attribute_in t))
      said t k = rw (star-says t k, k)

      go : (b : Bool) → digits (columns 23 28 t) ≡ b → told_in (renumbered σ 23 t) ≡ told_for σ (told_in t)
      go true d =
          let h = digits-changed σ 23 (omega arith) t d in
          let s = renumbered σ 23 t in
          let d' = now-digits σ 23 (omega arith) t d in
          said s (sym (kind-kept t s h d d') ∙ k)
          ∙ (ap (λ (f : Form). formed f (Ranges (attribute_in s))) (sym (attribute-form t s h d d'))
          ∙ (both (form_of attribute_columns t) (attribute_in s) (attribute_in t) (attribute-in t s h d d' σ (now-number σ 23 (omega arith) t d six))
          ∙ sym (ap (told_for σ) (said t k))))
      go false d = ap told_in (same_line σ 23 t d) ∙ (said t k ∙ (unnumbered t d ∙ sym (ap (told_for σ) (said t k))))

  formed-same : (f : Form) (x : Told) → x ≡ told_for σ x → formed f x ≡ told_for σ (formed f x)
  formed-same Fits x e = e
  formed-same (BrokenForm c) x e = refl

  -- another line has no bit field number (a *G line's is 0)
  other-line : (t : List ℕ) (k : Kind) → is_attribute k ≡ false → told_by k t ≡ told_for σ (told_by k t)
  other-line t OpeningKind e = formed-same (form_of service_columns t) (Opens (opening_in t)) refl
  other-line t Frequency e = formed-same (form_of frequency_columns t) (Opens (frequency_in t)) refl
  other-line t CategoryKind e = formed-same (form_of category_columns t) (Ranges (category_in t)) (rw kept)
  other-line t Attribute e = clash (sym e)
  other-line t Schedule e = formed-same (form_of call_columns t) (Calls (call_in t)) refl
  other-line t OtherKind e = refl

  -- what a line of FPLAN says
  pub plan-told : (t : List ℕ) → told_in (plan_line σ t) ≡ told_for σ (told_in t)
  unfolding plan_line told_in
  plan-told t = go (is_attribute (kind_of t)) refl
    where
      is : (k : Kind) → is_attribute k ≡ true → k ≡ Attribute
      is OpeningKind e = clash e
      is Frequency e = clash e
      is CategoryKind e = clash e
      is Attribute e = refl
      is Schedule e = clash e
      is OtherKind e = clash e

      skip-or : (b : Bool) (x : Told) → x ≡ told_for σ x → cond b Skip x ≡ told_for σ (cond b Skip x)
      skip-or true x e = refl
      skip-or false x e = e

      go : (b : Bool) → is_attribute (kind_of t) ≡ b → told_in (cond b (renumbered σ 23 t) t) ≡ told_for σ (told_in t)
      go true e = plan-attribute t (is (kind_of t) e)
      go false e = skip-or (skipped t) (told_by (kind_of t) t) (other-line t (kind_of t) e)

-- its kind, and whether it is skipped
module _ (σ : ℕ → ℕ) where
  pub plan-kind : (t : List ℕ) → kind_of (plan_line σ t) ≡ kind_of t
  unfolding plan_line
  plan-kind t = go (is_attribute (kind_of t))
    where
      changed : (b : Bool) → digits (columns 23 28 t) ≡ b → kind_of (renumbered σ 23 t) ≡ kind_of t
      changed true d = sym (kind-kept t (renumbered σ 23 t) (digits-changed σ 23 (omega arith) t d) d (now-digits σ 23 (omega arith) t d))
      changed false d = ap kind_of (same_line σ 23 t d)

      go : (b : Bool) → kind_of (cond b (renumbered σ 23 t) t) ≡ kind_of t
      go true = changed (digits (columns 23 28 t)) refl
      go false = refl

  pub plan-skipped : (t : List ℕ) → skipped (plan_line σ t) ≡ skipped t
  unfolding plan_line
  plan-skipped t = go (is_attribute (kind_of t)) refl
    where
      is : (k : Kind) → is_attribute k ≡ true → k ≡ Attribute
      is OpeningKind e = clash e
      is Frequency e = clash e
      is CategoryKind e = clash e
      is Attribute e = refl
      is Schedule e = clash e
      is OtherKind e = clash e

      go : (b : Bool) → is_attribute (kind_of t) ≡ b → skipped (cond b (renumbered σ 23 t) t) ≡ skipped t
      go true e =
          let k = is (kind_of t) e in
          star-says (renumbered σ 23 t) (sym (ap (λ (b : Bool). kind_of (cond b (renumbered σ 23 t) t)) e) ∙ (plan-kind t ∙ k)) ∙ sym (star-says t k)
      go false e = refl

-- ---- BITFELD

module _ (t s : List ℕ) (h : SameBut 0 6 t s) (d : digits (columns 1 6 t) ≡ true) (d' : digits (columns 1 6 s) ≡ true) where
  field-form : form_of bit_field_columns t ≡ form_of bit_field_columns s
  unfolding form_from row_form
  field-form = rw (
    unnamed-before 0 6 t s h 0 0 (omega arith) (omega arith),
    d,
    d',
    unnamed-behind 0 6 t s h 6 7 (omega arith),
    columns-behind 0 6 t s h 8 103 (omega arith),
    same_length 0 6 t s h,
    unnamed-behind 0 6 t s h 103 (length s) (omega arith),
  )

  field-words : bits_in s ≡ bits_in t
  unfolding bits_in
  field-words = rw (columns-behind 0 6 t s h 8 103 (omega arith))

bad-field : (t : List ℕ) → digits (columns 1 6 t) ≡ false → (c : ℕ) × (form_of bit_field_columns t ≡ BrokenForm c)
bad-field t d = broken-row 0 [] (row 1 6 digits_rule) (drop 1 bit_field_columns) t d

abbrev field_in : List ℕ → BitField
field_in t = record { number = number (columns 1 6 t); words = bits_in t }

abbrev held_in : List ℕ → Held BitField
held_in t = cond (skipped t) skip (held_by (form_of bit_field_columns t) (field_in t))

held-is : (t : List ℕ) → skipped t ≡ false → held_in t ≡ held_by (form_of bit_field_columns t) (field_in t)
held-is t e = rw e

module _ (σ : ℕ → ℕ) (six : (n : ℕ) → n < 1000000 → σ n < 1000000) where
  field-text : (t : List ℕ) → held_in (renumbered σ 1 t) ≡ held_for σ (held_in t)
  field-text t = go (digits (columns 1 6 t)) refl
    where
      both : (f : Form) (x y : BitField) → x ≡ field_for σ y → held_by f x ≡ held_for σ (held_by f y)
      both Fits x y e = ap held e
      both (BrokenForm c) x y e = refl

      stays : (b : Bool) (f : Form) (c : ℕ) → f ≡ BrokenForm c → (x : BitField) → cond b skip (held_by f x) ≡ held_for σ (cond b skip (held_by f x))
      stays true f c e x = refl
      stays false f c e x = rw e refl

      go : (b : Bool) → digits (columns 1 6 t) ≡ b → held_in (renumbered σ 1 t) ≡ held_for σ (held_in t)
      go true d =
          let s = renumbered σ 1 t in
          let h = digits-changed σ 1 (omega arith) t d in
          let d' = now-digits σ 1 (omega arith) t d in
          let e : field_in s ≡ field_for σ (field_in t) = rw (now-number σ 1 (omega arith) t d six, field-words t s h d d') in
          held-is s (digit-says s d')
          ∙ (ap (λ (f : Form). held_by f (field_in s)) (sym (field-form t s h d d'))
          ∙ (both (form_of bit_field_columns t) (field_in s) (field_in t) e ∙ sym (ap (held_for σ) (held-is t (digit-says t d)))))
      go false d = let z = bad-field t d in ap held_in (same_line σ 1 t d) ∙ stays (skipped t) (form_of bit_field_columns t) z.0 z.1 (field_in t)

  -- what a line of BITFELD holds
  pub field-held : (l : Line) → bit_field_of (on_text (field_line σ) l) ≡ held_for σ (bit_field_of l)
  field-held l = field-text l.text
