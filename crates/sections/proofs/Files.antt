-- The needs of the checks of whole files, for `search files`: r is what the walk of the lines ls answers. Assumes nothing.
use Rattle.std.specs.Prelude.{Result, Ok, Err}
use mathlib.Core.Path.{◌≡◌, refl, ap, sym, ◌∙◌}
use mathlib.Core.List.{List, [], ◌∷◌}
use mathlib.Core.Option.{Option}
use Prim.Native.Nat.{ℕ, ◌+◌, ◌≤◌, ◌<◌}
use native.Mathlib.Omega.{arith}
use lib.ListN.{length, take, drop, length-map}
use borrow.Author.Tests.{eq-eqb, ne_eqb}
use Rattle.base.proofs.Laws.{tests, apart}
use Rattle.columns.specs.Columns.{columns, number}
use Rattle.lines.specs.Lines.{Line, skipped}
use Rattle.forms.specs.Form.{form_of}
use Rattle.forms.specs.Columns.{bit_field_columns, stop_columns, interchange_columns, class_columns}
use Rattle.timetable.specs.Delivery.{StopRecord, Interchange}
use Rattle.timetable.specs.Offences.{offence_at, ◌<|>◌, first, checked_by}
use Rattle.timetable.specs.Files.{held_in, bit_field_of, bit_field_line_offence, bit_fields_first, stop_of, stop_line_offence, stops_first}
use Rattle.timetable.specs.Files.{class_of, class_line_offence, classes_first}
use Rattle.timetable.specs.Plan.{three_bytes}
use Rattle.timetable.specs.Files.{interchange_of, interchange_offence, interchange_line_offence, interchanges_first}
use Rattle.timetable.specs.declared.Offence.{Offence}
use Rattle.timetable.proofs.Offences.{first-same, checked-holds, checked_refused}
use Rattle.sections.specs.Inner.Sections.{numbers, number_on, record_offence, line_offence}
use Rattle.sections.specs.Inner.SectionMap.{MapOf, Lent, Ready}
use Rattle.sections.specs.declared.Section.TheVariants.{BitFields, Stops, Interchanges, Classes}
use Rattle.sections.proofs.Held.{by_number, field-numbers, stop-numbers, interchange-numbers, class-numbers}
use Rattle.sections.proofs.Offences.{just}

-- ---- how many records: later crates take it from here

module _ (ls : List Line) where
  pub count-fields : length (numbers BitFields ls) ≡ length (held_in bit_field_of ls)
  count-fields = ap length (field-numbers ls) ∙ length-map (held_in bit_field_of ls) _

  pub count-stops : length (numbers Stops ls) ≡ length (held_in stop_of ls)
  count-stops = ap length (stop-numbers ls) ∙ length-map (held_in stop_of ls) _

  pub count-interchanges : length (numbers Interchanges ls) ≡ length (held_in interchange_of ls)
  count-interchanges = ap length (interchange-numbers ls) ∙ length-map (held_in interchange_of ls) _

  pub count-classes : length (numbers Classes ls) ≡ length (held_in class_of ls)
  count-classes = ap length (class-numbers ls) ∙ length-map (held_in class_of ls) _

-- ---- a line's own offence is the one that the paper's file says

just-number : (stops : List StopRecord) (es : List Interchange) (no : ℕ) (c : Interchange) → interchange_offence stops es no c ≡ interchange_offence stops es no (just c.number)
just-number stops [] line c = refl
just-number stops (e ∷ es) line c = refl

module _ (n : ℕ) (stops : List StopRecord) (before : List Line) (l : Line) where
  pub line-of-fields : line_offence BitFields n stops before l ≡ bit_field_line_offence n before l
  unfolding line_offence number_on record_offence
  line-of-fields = sym (by_number _ (record_offence BitFields n stops before l.no l.text) l.no (skipped l.text) (form_of bit_field_columns l.text) _ (number (columns 1 6 l.text)) refl)

  pub line-of-stops : line_offence Stops n stops before l ≡ stop_line_offence before l
  unfolding line_offence number_on record_offence
  line-of-stops = sym (by_number _ (record_offence Stops n stops before l.no l.text) l.no (skipped l.text) (form_of stop_columns l.text) _ (number (columns 1 7 l.text)) refl)

  pub line-of-interchanges : line_offence Interchanges n stops before l ≡ interchange_line_offence stops before l
  unfolding line_offence number_on record_offence
  line-of-interchanges = sym (by_number _ (record_offence Interchanges n stops before l.no l.text) l.no (skipped l.text) (form_of interchange_columns l.text) _ (number (columns 1 7 l.text)) (just-number stops (held_in interchange_of before) l.no _))

  pub line-of-classes : line_offence Classes n stops before l ≡ class_line_offence before l
  unfolding line_offence number_on record_offence
  line-of-classes = sym (by_number _ (record_offence Classes n stops before l.no l.text) l.no (skipped l.text) (form_of class_columns l.text) _ (three_bytes 1 l.text) refl)

-- ---- the words lent for each file

module _ (f b m : List ℕ) where
  pub fields-ready : Lent f m → Ready BitFields f b 0 m
  fields-ready l = record { inside = omega arith; lent = l; stops = λ e. apart cc; mapped = λ e. apart cc }

  pub stops-ready : Lent f m → Ready Stops f b 0 m
  stops-ready l = record { inside = omega arith; lent = l; stops = λ e. apart cc; mapped = λ e. apart cc }

  pub interchanges-ready : (split : ℕ) → split ≤ length m → MapOf Stops b (take split m) → Lent f (drop split m) → Ready Interchanges f b split m
  interchanges-ready split h w l = record { inside = h; lent = l; stops = λ e. w; mapped = λ e. apart cc }

-- ---- each file

module _ (ls : List Line) (days : ℕ) (stops : List StopRecord) (r : Result (ℕ × ℕ) Offence) where
  pub fields-checked : r ≡ checked_by (first (line_offence BitFields days stops) [] ls) (length (numbers BitFields ls)) (length ls + 1)
      → r ≡ checked_by (bit_fields_first days ls) (length (held_in bit_field_of ls)) (length ls + 1)
  unfolding bit_fields_first
  fields-checked e = e ∙ rw (count-fields, first-same _ _ (line-of-fields days stops) [] ls) refl

  pub stops-checked : r ≡ checked_by (first (line_offence Stops days stops) [] ls) (length (numbers Stops ls)) (length ls + 1)
      → r ≡ checked_by (stops_first ls) (length (held_in stop_of ls)) (length ls + 1)
  unfolding stops_first
  stops-checked e = e ∙ rw (count-stops, first-same _ _ (line-of-stops days stops) [] ls) refl

  pub classes-checked : r ≡ checked_by (first (line_offence Classes days stops) [] ls) (length (numbers Classes ls)) (length ls + 1)
      → r ≡ checked_by (classes_first ls) (length (held_in class_of ls)) (length ls + 1)
  unfolding classes_first
  classes-checked e = e ∙ rw (count-classes, first-same _ _ (line-of-classes days stops) [] ls) refl

  module _ (e : r ≡ checked_by (first (line_offence Interchanges days stops) [] ls) (length (numbers Interchanges ls)) (length ls + 1)) where
    -- the offences of its lines
    abbrev own : Option Offence
    own = first (interchange_line_offence stops) [] ls

    here : r ≡ checked_by own (length (held_in interchange_of ls)) (length ls + 1)
    here = e ∙ rw (count-interchanges, first-same _ _ (line-of-interchanges days stops) [] ls) refl

    pub interchanges-refused : (x : Offence) → r ≡ Err x → r ≡ checked_by (interchanges_first stops ls) (length (held_in interchange_of ls)) (length ls + 1)
    unfolding interchanges_first ◌<|>◌
    interchanges-refused x y = y ∙ rw (checked_refused own _ _ r here x y) refl

    module _ (c n : ℕ) (y : r ≡ Ok (c, n)) where
      -- "2 UMSTEIGB without a record"
      pub interchanges-none : (x : Offence) → c < 1 → x ≡ offence_at 2 n → Err x ≡ checked_by (interchanges_first stops ls) (length (held_in interchange_of ls)) (length ls + 1)
      unfolding interchanges_first ◌<|>◌
      interchanges-none x l z =
          let h = checked-holds own _ _ r here c n y in
          let k : length (held_in interchange_of ls) ≡ 0 = omega (arith, h.1) in
          rw (h.0, eq-eqb (length (held_in interchange_of ls)) 0 k, h.2) (ap Err z)

      pub interchanges-checked : 1 ≤ c → Ok (c, n) ≡ checked_by (interchanges_first stops ls) (length (held_in interchange_of ls)) (length ls + 1)
      unfolding interchanges_first ◌<|>◌
      interchanges-checked l =
          let h = checked-holds own _ _ r here c n y in
          rw (h.0, ne_eqb (length (held_in interchange_of ls)) 0 (λ z. omega (arith, h.1)), h.1, h.2) refl

pub ruleset files = (tests, fields-ready, stops-ready, interchanges-ready, fields-checked, stops-checked, classes-checked, interchanges-refused, interchanges-none, interchanges-checked)
