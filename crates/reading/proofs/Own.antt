-- One line's own offence, by what is counted before it: the needs of the functions that see one line. Assumes nothing.
use Rattle.std.specs.Prelude.{Result, Ok, Err}
use mathlib.Core.Path.{◌≡◌, refl, sym, ◌∙◌}
use mathlib.Core.List.{List}
use mathlib.Core.Bool.{Bool, true, false}
use mathlib.Core.Option.{some}
use Prim.Native.Nat.{ℕ, ◌≤◌, ◌<◌}
use lib.Dec.{leb}
use borrow.Author.Tests.{le-leb, lt-leb, eq-eqb, ne_eqb}
use Rattle.base.proofs.Laws.{tests}
use Rattle.timetable.specs.Layout.{most_calls, most_categories, most_days, most_extras}
use Rattle.timetable.specs.Delivery.{BitField, StopRecord, CategoryClass}
use Rattle.timetable.specs.Offences.{offence_at, ◌<|>◌, verdict_by}
use Rattle.timetable.specs.Files.{has_field, has_stop, has_class}
use Rattle.timetable.specs.Legs.{field_known}
use Rattle.timetable.specs.Checks.{most, category_listed}
use Rattle.timetable.specs.declared.CallLine.{CallLine}
use Rattle.timetable.specs.declared.RangeKind.{RangeKind}
use Rattle.timetable.specs.declared.RangeKind.TheVariants.{Category, Days, Extra}
use Rattle.timetable.specs.declared.RangeLine.{RangeLine}
use Rattle.timetable.specs.declared.Opening.{Opening}
use Rattle.timetable.specs.declared.Told.{Told}
use Rattle.timetable.specs.declared.Told.TheVariants.{Skip, Other, Broken, Opens, Ranges, Calls}
use Rattle.sections.specs.Inner.SectionMap.{MapOf}
use Rattle.classes.specs.Inner.Index.{IndexOf}
use Rattle.sections.specs.declared.Section.TheVariants.{BitFields, Stops}
use Rattle.draft.specs.declared.Counts.{Counts}
use Rattle.reading.specs.Inner.Maps.{FieldMap, StopMap, ClassIndex}
use Rattle.reading.specs.Inner.Reading.{count_of, category_after, range_after, call_after, offence_after}
use Rattle.timetable.specs.declared.Offence.{Offence}

-- ---- limits and look-ups, for `search lookups`

module _ (k : Counts) (p : RangeKind) where
  pub full-categories : p ≡ Category → leb most_categories k.categories ≡ leb (most p) (count_of p k)
  full-categories e = rw e refl

  pub full-days : p ≡ Days → leb most_days k.days ≡ leb (most p) (count_of p k)
  full-days e = rw e refl

  pub full-extras : p ≡ Extra → leb most_extras k.extras ≡ leb (most p) (count_of p k)
  full-extras e = rw e refl

module _ (n : ℕ) (fields : List BitField) where
  pub field-daily : n ≡ 0 → true ≡ field_known n fields
  field-daily e = rw (eq-eqb n 0 e) refl

  pub field-listed : (t : Bool) → (n ≡ 0 → ⊥) → t ≡ has_field n fields → t ≡ field_known n fields
  field-listed t z e = rw (ne_eqb n 0 z) e

-- the maps, opened for the look-ups
pub field-map : (b m : List ℕ) → FieldMap b m → MapOf BitFields b m
unfolding FieldMap
field-map b m h = h

pub stop-map : (s m : List ℕ) → StopMap s m → MapOf Stops s m
unfolding StopMap
stop-map s m h = h

pub class-index : (z m : List ℕ) → ClassIndex z m → IndexOf z m
unfolding ClassIndex
class-index z m h = h

module _ (p : RangeKind) (name : ℕ) (classes : List CategoryClass) where
  pub category-listed : (t : Bool) → p ≡ Category → t ≡ has_class name classes → t ≡ category_listed p name classes
  category-listed t y e = rw y e

  pub days-listed : p ≡ Days → true ≡ category_listed p name classes
  days-listed y = rw y refl

  pub extra-listed : p ≡ Extra → true ≡ category_listed p name classes
  extra-listed y = rw y refl

pub ruleset lookups = (tests, full-categories, full-days, full-extras, field-daily, field-listed, category-listed, days-listed, extra-listed)

-- ---- the offence of a range and of a call, for `search own`: t says that there is no room for one more, s that its bit field, category or stop is known

module _ (classes : List CategoryClass) (line : ℕ) (p : RangeKind) (name : ℕ) (s : Bool) (d : s ≡ category_listed p name classes) where
  pub category-fine : s ≡ true → Ok tt ≡ verdict_by (category_after classes line p name)
  category-fine y = rw (sym d ∙ y) refl

  pub category-unknown : (v : Result (Unit {0}) Offence) → s ≡ false → v ≡ verdict_by (some (offence_at 38 line)) → v ≡ verdict_by (category_after classes line p name)
  category-unknown v y o = rw (sym d ∙ y) o

module _ (fields : List BitField) (classes : List CategoryClass) (k : Counts) (line : ℕ) (p : RangeKind) (field name : ℕ) (t : Bool) (e : t ≡ leb (most p) (count_of p k)) where
  pub range-over : (v : Result (Unit {0}) Offence) → t ≡ true → v ≡ verdict_by (some (offence_at 13 line)) → v ≡ verdict_by (range_after fields classes k line p field name)
  unfolding ◌<|>◌
  range-over v y o = rw (sym e ∙ y) o

  module _ (n : t ≡ false) (s : Bool) (d : s ≡ field_known field fields) where
    pub range-known : (v : Result (Unit {0}) Offence) → s ≡ true → v ≡ verdict_by (category_after classes line p name) → v ≡ verdict_by (range_after fields classes k line p field name)
    unfolding ◌<|>◌
    range-known v y o = rw (sym e ∙ n, sym d ∙ y) o

    pub range-unknown : (v : Result (Unit {0}) Offence) → s ≡ false → v ≡ verdict_by (some (offence_at 10 line)) → v ≡ verdict_by (range_after fields classes k line p field name)
    unfolding ◌<|>◌
    range-unknown v y o = rw (sym e ∙ n, sym d ∙ y) o

module _ (stops : List StopRecord) (k : Counts) (line stop : ℕ) where
  pub call-over : (v : Result (Unit {0}) Offence) → most_calls ≤ k.calls → v ≡ verdict_by (some (offence_at 13 line)) → v ≡ verdict_by (call_after stops k line stop)
  unfolding ◌<|>◌
  call-over v h o = rw (le-leb most_calls k.calls h) o

  module _ (h : k.calls < most_calls) (s : Bool) (d : s ≡ has_stop stop stops) where
    pub call-fine : s ≡ true → Ok tt ≡ verdict_by (call_after stops k line stop)
    unfolding ◌<|>◌
    call-fine y = rw (lt-leb most_calls k.calls h, sym d ∙ y) refl

    pub call-unknown : (v : Result (Unit {0}) Offence) → s ≡ false → v ≡ verdict_by (some (offence_at 9 line)) → v ≡ verdict_by (call_after stops k line stop)
    unfolding ◌<|>◌
    call-unknown v y o = rw (lt-leb most_calls k.calls h, sym d ∙ y) o

pub ruleset own = (tests, category-fine, category-unknown, range-over, range-known, range-unknown, call-over, call-fine, call-unknown)

-- ---- a line's offence, for `search told`

module _ (fields : List BitField) (stops : List StopRecord) (classes : List CategoryClass) (k : Counts) (line : ℕ) (x : Told) (v : Result (Unit {0}) Offence) where
  pub after-other : x ≡ Other → v ≡ verdict_by (some (offence_at 11 line)) → v ≡ verdict_by (offence_after fields stops classes k line x)
  after-other e o = rw e o

  pub after-range : (r : RangeLine) → x ≡ Ranges r → v ≡ verdict_by (range_after fields classes k line r.part r.field r.name) → v ≡ verdict_by (offence_after fields stops classes k line x)
  after-range r e o = rw e o

  pub after_call : (c : CallLine) → x ≡ Calls c → v ≡ verdict_by (call_after stops k line c.stop) → v ≡ verdict_by (offence_after fields stops classes k line x)
  after_call c e o = rw e o

pub after-opens : (fields : List BitField) (stops : List StopRecord) (classes : List CategoryClass) (k : Counts) (line : ℕ) (x : Told) (o : Opening) → x ≡ Opens o → Ok tt ≡ verdict_by (offence_after fields stops classes k line x)
after-opens fields stops classes k line x o e = rw e refl

pub after-broken : (fields : List BitField) (stops : List StopRecord) (classes : List CategoryClass) (k : Counts) (line : ℕ) (x : Told) (c : ℕ) → x ≡ Broken c → Err (record { number = 4; line = line; column = c }) ≡ verdict_by (offence_after fields stops classes k line x)
after-broken fields stops classes k line x c e = rw e refl

pub after-skip : (fields : List BitField) (stops : List StopRecord) (classes : List CategoryClass) (k : Counts) (line : ℕ) (x : Told) → x ≡ Skip → Ok tt ≡ verdict_by (offence_after fields stops classes k line x)
after-skip fields stops classes k line x e = rw e refl

pub ruleset told = (tests, after-skip, after-opens, after-other, after-range, after_call, after-broken)
