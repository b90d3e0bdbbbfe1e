-- A line that was checked, drafted by its kind: what it says is what its kind reads. And the first line of a service, whose form alone is checked.
-- Assumes nothing.
use Rattle.std.specs.Prelude.{Ok, Err}
use mathlib.Core.Path.{◌≡◌, refl, sym, ap, ◌∙◌}
use mathlib.Core.List.{List, [], ◌∷◌, ◌++◌}
use mathlib.Core.Bool.{Bool, true, false, cond}
use mathlib.Core.Logic.{⊎_elim}
use denote.Enum.Declared.{tag_of}
use types.Run.{OneOf}
use Prim.Native.Nat.{ℕ}
use native.Mathlib.Omega.{arith}
use Rattle.base.proofs.Laws.{clash, tests}
use Rattle.lines.specs.Lines.{skipped}
use Rattle.forms.specs.Form.{form_of, is_fit, has_form, Form, Fits, Broken as BrokenForm}
use Rattle.forms.specs.Columns.{service_columns, frequency_columns, category_columns, attribute_columns, call_columns}
use Rattle.forms.specs.Kinds.{kind_of}
use Rattle.forms.specs.declared.Kind.{Kind}
use Rattle.forms.specs.declared.Kind.TheVariants.{Opening as OpeningKind, Frequency, Category as CategoryKind, Attribute, Schedule, Other as OtherKind}
use Rattle.forms.specs.contracts.Kind as K
use Rattle.told.proofs.Laws.{is_other, told-own}
use Rattle.timetable.specs.Delivery.{BitField, StopRecord, CategoryClass}
use Rattle.timetable.specs.Offences.{verdict_by}
use Rattle.timetable.specs.Plan.{opening_in, frequency_in, category_in, attribute_in, call_in, formed, told_by, told_in, is_opening, as_call, as_range}
use Rattle.timetable.specs.declared.CallLine.{CallLine}
use Rattle.timetable.specs.declared.Opening.{Opening}
use Rattle.timetable.specs.declared.RangeLine.{RangeLine}
use Rattle.timetable.specs.declared.Told.{Told}
use Rattle.timetable.specs.declared.Told.TheVariants.{Skip, Other, Broken, Opens, Ranges, Calls}
use Rattle.timetable.specs.contracts.Told as T
use Rattle.draft.specs.Inner.Draft.{calls_on, ranges_on, on_line, calls_after, count_calls, counted, ranges#}
use Rattle.draft.specs.declared.Counts.{Counts}
use Rattle.draft.proofs.Writing.{none-counted, none-called, none-ranged, call-within, call-counted, call-called, call-ranged, range-within, range-counted, range-called, range-ranged}
use Rattle.reading.specs.Inner.Reading.{is_formed, form_after, offence_after}

-- ---- a line of a kind whose form is not broken says what the kind reads

is-formed : (f : Form) (t : Told) → is_formed (formed f t) ≡ true → formed f t ≡ t
is-formed Fits t e = refl
is-formed (BrokenForm c) t e = clash e

is-fit : (f : Form) (t : Told) → is_formed (formed f t) ≡ true → is_fit f ≡ true
is-fit Fits t e = refl
is-fit (BrokenForm c) t e = clash e

module _ (text : List ℕ) (kind : Kind) (d : kind ≡ kind_of text) (g : is_formed (told_in text) ≡ true) where
  reads_as : (k : Kind) (f : Form) (t : Told) → kind ≡ k → is_other k ≡ false → told_by k text ≡ formed f t → told_in text ≡ t
  reads_as k f t q o v =
      let z : told_in text ≡ formed f t = told-own text k (sym q ∙ d) o ∙ v in
      z ∙ is-formed f t (ap is_formed (sym z) ∙ g)

  pub call-formed : kind ≡ Schedule → has_form call_columns text ≡ true
  call-formed q = is-fit (form_of call_columns text) (Calls (call_in text)) (ap is_formed (sym (told-own text Schedule (sym q ∙ d) refl)) ∙ g)

  pub call-as : (c : CallLine) → kind ≡ Schedule → c ≡ call_in text → told_in text ≡ Calls c
  call-as c q v = reads_as Schedule (form_of call_columns text) (Calls (call_in text)) q refl refl ∙ ap Calls (sym v)

  -- a count shows no call, so the call is shown by what was read
  module _ (c : CallLine) (q : kind ≡ Schedule) (v : c ≡ call_in text) (k r : Counts) (e : r ≡ count_calls k (c ∷ [])) where
    pub again-counted : r ≡ counted k (told_in text)
    again-counted = call-counted k (told_in text) c (call-as c q v) r e

    pub again-ranged : (line : ℕ) (w : List ℕ) → ranges_on (ranges# r) w ≡ ranges_on (ranges# k) w ++ on_line line (as_range (told_in text))
    again-ranged line w = call-ranged k (told_in text) c (call-as c q v) r line w e

  pub category-as : (r : RangeLine) → kind ≡ CategoryKind → r ≡ category_in text → told_in text ≡ Ranges r
  category-as r q v = reads_as CategoryKind (form_of category_columns text) (Ranges (category_in text)) q refl refl ∙ ap Ranges (sym v)

  pub attribute-as : (r : RangeLine) → kind ≡ Attribute → r ≡ attribute_in text → told_in text ≡ Ranges r
  attribute-as r q v = reads_as Attribute (form_of attribute_columns text) (Ranges (attribute_in text)) q refl refl ∙ ap Ranges (sym v)

-- the needs of `draft_again` where its line is a call or a range
pub ruleset again-said = (tests, call-formed, call-as, category-as, attribute-as, again-counted, again-ranged, call-within, call-called, range-within, range-counted, range-called, range-ranged)

-- ---- the other kinds say no call and no range

none-formed : (f : Form) (o : Opening) → (as_call (formed f (Opens o)) ≡ []) × (as_range (formed f (Opens o)) ≡ [])
none-formed Fits o = (refl, refl)
none-formed (BrokenForm c) o = (refl, refl)

module _ (text : List ℕ) where
  none-kind : (k : Kind) → OneOf (0 ∷ 1 ∷ 2 ∷ 3 ∷ 5 ∷ []) (tag_of K.the_type k) → OneOf (0 ∷ 1 ∷ 3 ∷ 4 ∷ 5 ∷ []) (tag_of K.the_type k) → OneOf (0 ∷ 1 ∷ 2 ∷ 4 ∷ 5 ∷ []) (tag_of K.the_type k)
      → (as_call (told_by k text) ≡ []) × (as_range (told_by k text) ≡ [])
  none-kind OpeningKind a b c = none-formed (form_of service_columns text) (opening_in text)
  none-kind Frequency a b c = none-formed (form_of frequency_columns text) (frequency_in text)
  none-kind CategoryKind a b c = absurd (⊎_elim (λ w. omega arith) (⊎_elim (λ w. omega arith) (⊎_elim (λ w. omega arith) (⊎_elim (λ w. omega arith) (λ w. omega arith)))) b)
  none-kind Attribute a b c = absurd (⊎_elim (λ w. omega arith) (⊎_elim (λ w. omega arith) (⊎_elim (λ w. omega arith) (⊎_elim (λ w. omega arith) (λ w. omega arith)))) c)
  none-kind Schedule a b c = absurd (⊎_elim (λ w. omega arith) (⊎_elim (λ w. omega arith) (⊎_elim (λ w. omega arith) (⊎_elim (λ w. omega arith) (λ w. omega arith)))) a)
  none-kind OtherKind a b c = (refl, refl)

  module _ (kind : Kind) (d : kind ≡ kind_of text)
      (a : OneOf (0 ∷ 1 ∷ 2 ∷ 3 ∷ 5 ∷ []) (tag_of K.the_type kind)) (b : OneOf (0 ∷ 1 ∷ 3 ∷ 4 ∷ 5 ∷ []) (tag_of K.the_type kind)) (c : OneOf (0 ∷ 1 ∷ 2 ∷ 4 ∷ 5 ∷ []) (tag_of K.the_type kind)) where
    none_said : (as_call (told_in text) ≡ []) × (as_range (told_in text) ≡ [])
    unfolding told_in
    none_said = go (skipped text) (told_by (kind_of text) text) (rw d at (none-kind kind a b c))
      where
        go : (s : Bool) (t : Told) → (as_call t ≡ []) × (as_range t ≡ []) → (as_call (cond s Skip t) ≡ []) × (as_range (cond s Skip t) ≡ [])
        go true t h = (refl, refl)
        go false t h = h

    module _ (k : Counts) where
      pub passed_counted : k ≡ counted k (told_in text)
      passed_counted = none-counted k (told_in text) none_said.0 none_said.1

      pub passed-called : (o : Opening) (line : ℕ) (w : List ℕ) → calls_on k.calls w ≡ calls_after o (calls_on k.calls w) line (as_call (told_in text))
      passed-called = none-called k (told_in text) none_said.0 none_said.1

      pub passed-ranged : (line : ℕ) (w : List ℕ) → ranges_on (ranges# k) w ≡ ranges_on (ranges# k) w ++ on_line line (as_range (told_in text))
      passed-ranged = none-ranged k (told_in text) none_said.0 none_said.1

pub ruleset again-passed = (tests, passed_counted, passed-called, passed-ranged)

-- ---- the needs of `first_offence`, for `search firstly`

pub first-broken : (t : Told) (line c : ℕ) → t ≡ Broken c → Err (record { number = 4; line = line; column = c }) ≡ verdict_by (form_after line t)
first-broken t line c e = rw e refl

pub first_fine : (t : Told) (line : ℕ) → OneOf (0 ∷ 1 ∷ 3 ∷ 4 ∷ 5 ∷ []) (tag_of T.the_type t) → Ok tt ≡ verdict_by (form_after line t)
first_fine Skip line e = refl
first_fine Other line e = refl
first_fine (Broken c) line e = absurd (⊎_elim (λ w. omega arith) (⊎_elim (λ w. omega arith) (⊎_elim (λ w. omega arith) (⊎_elim (λ w. omega arith) (λ w. omega arith)))) e)
first_fine (Opens o) line e = refl
first_fine (Ranges r) line e = refl
first_fine (Calls c) line e = refl

pub ruleset firstly = (tests, first-broken, first_fine)

-- ---- what the first line says has no other offence

abbrev opens_only : Told → Bool
opens_only Skip = true
opens_only Other = false
opens_only (Broken c) = true
opens_only (Opens o) = true
opens_only (Ranges r) = false
opens_only (Calls c) = false

only-formed : (f : Form) (o : Opening) → opens_only (formed f (Opens o)) ≡ true
only-formed Fits o = refl
only-formed (BrokenForm c) o = refl

only-kind : (k : Kind) (text : List ℕ) → is_opening k ≡ true → opens_only (told_by k text) ≡ true
only-kind OpeningKind text e = only-formed (form_of service_columns text) (opening_in text)
only-kind Frequency text e = only-formed (form_of frequency_columns text) (frequency_in text)
only-kind CategoryKind text e = clash e
only-kind Attribute text e = clash e
only-kind Schedule text e = clash e
only-kind OtherKind text e = clash e

only-opens : (text : List ℕ) → is_opening (kind_of text) ≡ true → opens_only (told_in text) ≡ true
unfolding told_in
only-opens text e = go (skipped text) (told_by (kind_of text) text) (only-kind (kind_of text) text e)
  where
    go : (s : Bool) (t : Told) → opens_only t ≡ true → opens_only (cond s Skip t) ≡ true
    go true t h = refl
    go false t h = h

module _ (fields : List BitField) (stops : List StopRecord) (classes : List CategoryClass) (k : Counts) (line : ℕ) where
  only-form : (t : Told) → opens_only t ≡ true → form_after line t ≡ offence_after fields stops classes k line t
  only-form Skip e = refl
  only-form Other e = clash e
  only-form (Broken c) e = refl
  only-form (Opens o) e = refl
  only-form (Ranges r) e = clash e
  only-form (Calls c) e = clash e

  pub form-only : (text : List ℕ) (t : Told) → is_opening (kind_of text) ≡ true → t ≡ told_in text → form_after line t ≡ offence_after fields stops classes k line t
  form-only text t e d = only-form t (rw d (only-opens text e))
