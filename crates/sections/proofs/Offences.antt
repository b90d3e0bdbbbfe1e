-- The needs of the own checks of a line. In each law v is the verdict that the code answers. Assumes nothing.
use Rattle.std.specs.Prelude.{Result, Ok, Err}
use mathlib.Core.Path.{◌≡◌, refl, ap, sym, ◌∙◌}
use mathlib.Core.List.{List, [], ◌∷◌}
use mathlib.Core.Bool.{Bool, true, false, cond, not, ◌||◌}
use mathlib.Core.Option.{none}
use Prim.Native.Nat.{ℕ, ◌%◌}
use native.Mathlib.Omega.{arith}
use lib.ListN.{length, length-map}
use lib.Dec.{eqb}
use borrow.Author.Tests.{eq-eqb, ne_eqb}
use Rattle.base.specs.Lists.{every, some_of}
use Rattle.base.proofs.Laws.{apart, tests}
use Rattle.columns.specs.Columns.{columns, is_hex}
use Rattle.lines.specs.Lines.{Line, skipped}
use Rattle.forms.specs.Form.{form_of, Form, Fits, Broken as BrokenForm}
use Rattle.forms.specs.Columns.{bit_field_columns}
use Rattle.forms.proofs.Laws.{row-holds}
use Rattle.bitfield.specs.BitField.{bits_in, framed}
use Rattle.names.specs.Names.{is_name_list}
use Rattle.timetable.specs.Delivery.{StopRecord, Interchange}
use Rattle.timetable.specs.Offences.{offence_at, given, ◌<|>◌, verdict_by}
use Rattle.timetable.specs.Files.{held_in, bit_field_of, bit_field_offence, has_interchange, has_stop, stop_of, stop_offence, named_stop_offence, interchange_of, interchange_offence}
use Rattle.names.specs.NameField.{name_field}
use Rattle.timetable.proofs.Offences.{then-none, given-none}
use Rattle.sections.specs.Inner.Sections.{key_on, numbered_by, number_on, numbers, has_number, record_offence, numbered_offence}
use Rattle.sections.specs.Inner.SectionMap.{Reached}
use Rattle.sections.specs.declared.Section.{Section}
use Rattle.sections.specs.declared.Section.TheVariants.{BitFields, Stops, Interchanges, Classes}
use Rattle.sections.specs.declared.Numbered.{Numbered}
use Rattle.sections.specs.declared.Numbered.TheVariants.{Number, Skipped, Broken}
use Rattle.sections.proofs.Held.{interchange-numbers}
use Rattle.sections.proofs.Lookups.{has-field, has-stop, has-interchange, has-class, reached}
use Rattle.timetable.specs.declared.Offence.{Offence}

-- ---- a bit field of number k: 7, 6, 8. b is whether it was seen earlier, w its words, c whether they are framed

module _ (n k no : ℕ) (text : List ℕ) (ls : List Line) where
  -- what is to be shown
  abbrev FieldGives : Result (Unit {0}) Offence → Type 0
  FieldGives v = v ≡ verdict_by (bit_field_offence n (held_in bit_field_of ls) no (record { number = k; words = bits_in text }))

  pub field-zero : (v : Result (Unit {0}) Offence) → k ≡ 0 → v ≡ Err (offence_at 7 no) → FieldGives v
  unfolding ◌<|>◌
  field-zero v z e = rw (eq-eqb k 0 z) e

  module _ (z : k ≡ 0 → ⊥) (b : Bool) (s : b ≡ has_number k (numbers BitFields ls)) where
    pub field-seen : (v : Result (Unit {0}) Offence) → b ≡ true → v ≡ Err (offence_at 6 no) → FieldGives v
    unfolding ◌<|>◌
    field-seen v y e = rw (ne_eqb k 0 z, sym (has-field b k ls s) ∙ y) e

    module _ (y : b ≡ false) (w : List ℕ) (g : w ≡ bits_in text) (c : Bool) (f : c ≡ framed n w) where
      pub field-fine : c ≡ true → FieldGives (Ok tt)
      unfolding ◌<|>◌
      field-fine x = rw (ne_eqb k 0 z, sym (has-field b k ls s) ∙ y, ← g, sym f ∙ x) refl

      pub field-frame : (v : Result (Unit {0}) Offence) → c ≡ false → v ≡ Err (offence_at 8 no) → FieldGives v
      unfolding ◌<|>◌
      field-frame v x e = rw (ne_eqb k 0 z, sym (has-field b k ls s) ∙ y, ← g, sym f ∙ x) e

pub ruleset field-checks = (tests, field-zero, field-seen, field-fine, field-frame)

-- ---- a stop of number k: 7, 6. a is whether no stop has that number, b whether it was seen earlier

module _ (k no : ℕ) (ls : List Line) (a : Bool) (d : a ≡ (eqb k 9999999 || eqb (k % 100000) 0)) where
  abbrev StopGives : Result (Unit {0}) Offence → Type 0
  StopGives v = v ≡ verdict_by (stop_offence (held_in stop_of ls) no (record { number = k; offset = 0; size = 0 }))

  pub stop-barred : (v : Result (Unit {0}) Offence) → a ≡ true → v ≡ Err (offence_at 7 no) → StopGives v
  unfolding ◌<|>◌
  stop-barred v z e = rw (sym d ∙ z) e

  module _ (z : a ≡ false) (b : Bool) (s : b ≡ has_number k (numbers Stops ls)) where
    pub stop-seen : (v : Result (Unit {0}) Offence) → b ≡ true → v ≡ Err (offence_at 6 no) → StopGives v
    unfolding ◌<|>◌
    stop-seen v y e = rw (sym d ∙ z, sym (has-stop b k ls s) ∙ y) e

    pub stop-fine : b ≡ false → StopGives (Ok tt)
    unfolding ◌<|>◌
    stop-fine y = rw (sym d ∙ z, sym (has-stop b k ls s) ∙ y) refl

pub ruleset stop-checks = (tests, stop-barred, stop-seen, stop-fine)

-- 39 before them: a is whether the name field is a name list
module _ (k no : ℕ) (text : List ℕ) (ls : List Line) (a : Bool) (d : a ≡ is_name_list (name_field text)) (v : Result (Unit {0}) Offence) where
  abbrev NamedGives : Type 0
  NamedGives = v ≡ verdict_by (named_stop_offence (held_in stop_of ls) no text (record { number = k; offset = 0; size = 0 }))

  pub stop-named : a ≡ true → v ≡ verdict_by (stop_offence (held_in stop_of ls) no (record { number = k; offset = 0; size = 0 })) → NamedGives
  unfolding ◌<|>◌
  stop-named z e = rw (sym d ∙ z) e

  pub stop-unnamed : a ≡ false → v ≡ Err (offence_at 39 no) → NamedGives
  unfolding ◌<|>◌
  stop-unnamed z e = rw (sym d ∙ z) e

pub ruleset named-checks = (tests, stop-named, stop-unnamed)

-- ---- an interchange record of number k after c records: 7 for the first, 6 and 9 for others

-- a record of which only the number matters
abbrev pub just : ℕ → Interchange
just k = record { number = k; first_time = 0; second_time = 0 }

module _ (c k no : ℕ) (ls : List Line) (stops : List StopRecord) (d : c ≡ length (numbers Interchanges ls)) where
  abbrev InterchangeGives : Result (Unit {0}) Offence → Type 0
  InterchangeGives v = v ≡ verdict_by (interchange_offence stops (held_in interchange_of ls) no (just k))

  earlier-are : length (held_in interchange_of ls) ≡ c
  earlier-are = sym (d ∙ ap length (interchange-numbers ls) ∙ length-map (held_in interchange_of ls) _)

  module _ (z : c ≡ 0) where
    by_first : (es : List Interchange) → length es ≡ 0 → interchange_offence stops es no (just k) ≡ interchange_offence stops [] no (just k)
    by_first [] e = refl
    by_first (x ∷ es) e = absurd (omega arith)

    pub first_fine : k ≡ 9999999 → InterchangeGives (Ok tt)
    first_fine e = rw (by_first (held_in interchange_of ls) (earlier-are ∙ z), eq-eqb k 9999999 e) refl

    pub first-other : (v : Result (Unit {0}) Offence) → (k ≡ 9999999 → ⊥) → v ≡ Err (offence_at 7 no) → InterchangeGives v
    first-other v e y = rw (by_first (held_in interchange_of ls) (earlier-are ∙ z), ne_eqb k 9999999 e) y

  module _ (z : c ≡ 0 → ⊥) (b : Bool) (s : b ≡ has_number k (numbers Interchanges ls)) where
    by-later : (es : List Interchange) → (length es ≡ 0 → ⊥)
        → interchange_offence stops es no (just k) ≡ (given (has_interchange k es) 6 no <|> given (not (has_stop k stops)) 9 no)
    by-later [] e = absurd (e refl)
    by-later (x ∷ es) e = refl

    later : interchange_offence stops (held_in interchange_of ls) no (just k) ≡ (given b 6 no <|> given (not (has_stop k stops)) 9 no)
    later = by-later (held_in interchange_of ls) (λ e. z (sym earlier-are ∙ e)) ∙ rw (← has-interchange b k ls s) refl

    pub later-seen : (v : Result (Unit {0}) Offence) → b ≡ true → v ≡ Err (offence_at 6 no) → InterchangeGives v
    unfolding ◌<|>◌
    later-seen v y e = rw (later, y) e

    module _ (y : b ≡ false) (u : Bool) (f : u ≡ has_stop k stops) where
      pub later-fine : u ≡ true → InterchangeGives (Ok tt)
      unfolding ◌<|>◌
      later-fine x = rw (later, y, sym f ∙ x) refl

      pub later-unknown : (v : Result (Unit {0}) Offence) → u ≡ false → v ≡ Err (offence_at 9 no) → InterchangeGives v
      unfolding ◌<|>◌
      later-unknown v x e = rw (later, y, sym f ∙ x) e

pub ruleset interchange-checks = (tests, first_fine, first-other, later-seen, later-fine, later-unknown)

-- ---- a line that has n for a number: 4, then the record's own

module _ (s : Section) (days no : ℕ) (stops : List StopRecord) (before : List Line) (text : List ℕ) (n : Numbered) where
  abbrev LineGives : Result (Unit {0}) Offence → Type 0
  LineGives v = v ≡ verdict_by (numbered_offence (record_offence s days stops before no text) no n)

  pub line-skipped : n ≡ Skipped → LineGives (Ok tt)
  line-skipped y = rw y refl

  pub line-broken : (c : ℕ) → n ≡ Broken c → LineGives (Err (record { number = 4; line = no; column = c }))
  line-broken c y = rw y refl

  module _ (k : ℕ) (y : n ≡ Number k) (v : Result (Unit {0}) Offence) where
    pub line-field : s ≡ BitFields → v ≡ verdict_by (bit_field_offence days (held_in bit_field_of before) no (record { number = k; words = bits_in text })) → LineGives v
    unfolding record_offence
    line-field z e = rw (y, z) e

    pub line-stop : s ≡ Stops → v ≡ verdict_by (named_stop_offence (held_in stop_of before) no text (record { number = k; offset = 0; size = 0 })) → LineGives v
    unfolding record_offence
    line-stop z e = rw (y, z) e

    pub line-interchange : s ≡ Interchanges → v ≡ verdict_by (interchange_offence stops (held_in interchange_of before) no (just k)) → LineGives v
    unfolding record_offence
    line-interchange z e = rw (y, z) e

    -- a line of ZUGART is not asked for
    pub line-class : (part b : List ℕ) (split : ℕ) (m : List ℕ) → s ≡ Classes → Reached s part b split m → LineGives v
    line-class part b split m z w = absurd (w.mapped z)

-- a bit field's line that has a number has its form
pub line-hex : (s : Section) (text : List ℕ) (n : Numbered) (k : ℕ) → s ≡ BitFields → n ≡ number_on s text → n ≡ Number k → every is_hex (columns 8 103 text) ≡ true
unfolding number_on
line-hex s text n k z y d = row-holds bit_field_columns text 1 (go (skipped text) (form_of bit_field_columns text) (key_on BitFields text) (sym d ∙ y ∙ rw z refl))
  where
    go : (t : Bool) (g : Form) (x : ℕ) → Number k ≡ cond t Skipped (numbered_by g x) → g ≡ Fits
    go true g x e = apart cc
    go false Fits x e = refl
    go false (BrokenForm c) x e = apart cc

-- the records before, where they are those of UMSTEIGB
pub interchanges-before : (s : Section) (c : ℕ) (ls : List Line) → s ≡ Interchanges → c ≡ length (numbers s ls) → c ≡ length (numbers Interchanges ls)
interchanges-before s c ls z e = rw (← z) e

pub ruleset line-checks = (tests, line-hex, line-skipped, line-broken, line-field, line-stop, line-interchange, line-class, interchanges-before, reached)

-- ---- a record without an offence was not seen earlier: 6

module _ (days no k : ℕ) (stops : List StopRecord) (before : List Line) (text : List ℕ) where
  pub record-unseen : (s : Section) → record_offence s days stops before no text k ≡ none → has_number k (numbers s before) ≡ false
  unfolding record_offence some_of
  record-unseen BitFields e = has-field (has_number k (numbers BitFields before)) k before refl ∙ given-none _ 6 no (then-none _ _ (then-none _ _ e).1).0
  record-unseen Stops e = has-stop (has_number k (numbers Stops before)) k before refl ∙ given-none _ 6 no (then-none _ _ (then-none _ _ e).1).1
  record-unseen Classes e = has-class (has_number k (numbers Classes before)) k before refl ∙ given-none _ 6 no (then-none _ _ e).0
  record-unseen Interchanges e = has-interchange (has_number k (numbers Interchanges before)) k before refl ∙ none-earlier (held_in interchange_of before) e
    where
      none-earlier : (es : List Interchange) → interchange_offence stops es no (just k) ≡ none → has_interchange k es ≡ false
      none-earlier [] e = refl
      none-earlier (x ∷ es) e = given-none (has_interchange k (x ∷ es)) 6 no (then-none _ _ e).0
