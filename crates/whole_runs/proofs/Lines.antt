-- The lines of a service without an offence: every one was read (4, 11), they are not too many (13), their stops and bit fields are known (9, 10),
-- and each line of a range gives one range (16).
-- Assumes nothing.
use mathlib.Core.Path.{◌≡◌, refl, sym, ap, ◌∙◌, subst}
use mathlib.Core.List.{List, [], ◌∷◌, ◌++◌, map}
use mathlib.Core.Bool.{Bool, true, false, cond}
use mathlib.Core.Option.{Option, none, some}
use Prim.Native.Nat.{ℕ, ◌+◌, ◌<◌, ◌≤◌}
use native.Mathlib.Omega.{arith}
use lib.ListN.{length, length-append}
use borrow.Author.Tests.{leb-false, not-false}
use Rattle.base.specs.Lists.{All, nil, cons, gathered}
use Rattle.base.proofs.Laws.{apart, clash}
use Rattle.lines.specs.Lines.{Line}
use Rattle.timetable.specs.Layout.{most_calls}
use Rattle.timetable.specs.Delivery.{BitField, StopRecord, CategoryClass, Legs, DayRange, Delivery}
use Rattle.timetable.specs.Offences.{offence_at}
use Rattle.timetable.specs.Files.{has_stop}
use Rattle.timetable.specs.Plan.{told_in, tolds, as_call, as_range, ranges_of, is_part, of_part, part_lines, said_on}
use Rattle.timetable.specs.Service.{holding, called_on, calls_of, with_legs, legs_on, category_range, day_range, extra_range, service_of}
use Rattle.timetable.specs.Legs.{field_known}
use Rattle.timetable.specs.Checks.{most, told_offence, own_offence, is_none, ends_first}
use Rattle.timetable.specs.declared.Call.{Call}
use Rattle.timetable.specs.declared.CallLine.{CallLine}
use Rattle.timetable.specs.declared.Offence.{Offence}
use Rattle.timetable.specs.declared.RangeKind.{RangeKind}
use Rattle.timetable.specs.declared.RangeKind.TheVariants.{Category, Days, Extra}
use Rattle.timetable.specs.declared.RangeLine.{RangeLine}
use Rattle.timetable.specs.declared.Told.{Told}
use Rattle.timetable.specs.declared.Told.TheVariants.{Skip, Other, Broken, Opens, Ranges, Calls}
use Rattle.timetable.proofs.Calls.{calls-more, calls-all}
use Rattle.timetable.proofs.Lines.{tolds-more, part-more, said-on}
use Rattle.timetable.proofs.Offences.{then-none, given-none}
use Rattle.whole_runs.proofs.Lists.{all_append, all-to, each-gives-one}
use Rattle.whole_runs.proofs.Parts.{same-part, all-part}
use Rattle.whole_runs.proofs.Clear.{first-keeps, all_said, Fair}

-- ---- 13

pub record Limits (ls : List Line) : Type 0 where
  pub calls : length (calls_of ls) ≤ most_calls
  pub ranges : (p : RangeKind) → length (part_lines p ls) ≤ most p

-- one line of a range more
range-limit : (before : List Line) (r : RangeLine) → length (part_lines r.part before) < most r.part → (p : RangeKind) → length (part_lines p before) ≤ most p
    → length (part_lines p before) + length (gathered (of_part p) (r ∷ [])) ≤ most p
unfolding gathered
range-limit before r u p h = go (is_part p r) refl
  where
    go : (t : Bool) → is_part p r ≡ t → length (part_lines p before) + length (cond t (r ∷ []) [] ++ []) ≤ most p
    go true q = let z : length (part_lines p before) < most p = subst (λ (x : RangeKind). length (part_lines x before) < most x) (same-part r.part p q) u in omega arith
    go false q = omega arith

module _ (fields : List BitField) (stops : List StopRecord) (classes : List CategoryClass) where
  limit : (t : Told) (before : List Line) (line : ℕ) → told_offence fields stops classes before line t ≡ none → Limits before
      → (length (calls_of before) + length (as_call t) ≤ most_calls) × ((p : RangeKind) → length (part_lines p before) + length (gathered (of_part p) (as_range t)) ≤ most p)
  unfolding gathered
  limit Skip before line o h = let c = h.calls in (omega arith, λ p. let r = h.ranges p in omega arith)
  limit Other before line o h = apart (cc)
  limit (Broken c) before line o h = apart (cc)
  limit (Opens y) before line o h = let c = h.calls in (omega arith, λ p. let r = h.ranges p in omega arith)
  limit (Ranges r) before line o h =
      let c = h.calls in
      let u = leb-false (most r.part) (length (part_lines r.part before)) (given-none _ 13 line (then-none _ _ o).0) in
      (omega arith, λ p. range-limit before r u p (h.ranges p))
  limit (Calls c) before line o h =
      let u = leb-false most_calls (length (calls_of before)) (given-none _ 13 line (then-none _ _ o).0) in
      (omega arith, λ p. let r = h.ranges p in omega arith)

  limits-more : (before : List Line) (l : Line) → own_offence fields stops classes before l ≡ none → Limits before → Limits (before ++ (l ∷ []))
  limits-more before l o h =
      let m = limit (told_in l.text) before l.no o h in
      record {
        calls = rw (calls-more before l) m.0;
        ranges = λ p. rw (part-more p before l, length-append) (m.1 p);
      }

pub limits : (d : Delivery) (ls : List Line) → Fair d ls → Limits ls
unfolding tolds gathered said_on holding called_on
limits d ls h = first-keeps (own_offence d.fields d.stops d.classes) Limits (limits-more d.fields d.stops d.classes) ls h.own (record { calls = omega arith; ranges = none_yet })
  where
    none_yet : (p : RangeKind) → 0 ≤ most p
    none_yet p = omega arith

-- ---- 4, 11, 9 and 10, line by line

abbrev pub Read : Told → Type 0
Read t = (t ≡ Other → ⊥) × ((c : ℕ) → t ≡ Broken c → ⊥)

module _ (d : Delivery) where
  abbrev pub StopKnown : Call → Type 0
  StopKnown c = has_stop c.stop d.stops ≡ true

  abbrev pub FieldKnown : ℕ → Type 0
  FieldKnown b = field_known b d.fields ≡ true

  abbrev told : List Line → ℕ → Told → Option Offence
  told = told_offence d.fields d.stops d.classes

  read_one : (before : List Line) (line : ℕ) (t : Told) → told before line t ≡ none → Read t
  read_one before line t o = (
    λ e. let z : ◌≡◌ {A = Option Offence} (some (offence_at 11 line)) none = sym (ap (told before line) e) ∙ o in apart (cc),
    λ c e. let z : ◌≡◌ {A = Option Offence} (some (record { number = 4; line = line; column = c })) none = sym (ap (told before line) e) ∙ o in apart (cc),
  )

  -- of the call's line
  abbrev LineKnown : CallLine → Type 0
  LineKnown c = has_stop c.stop d.stops ≡ true

  stop-one : (before : List Line) (line : ℕ) (t : Told) → told before line t ≡ none → All LineKnown (as_call t)
  stop-one before line Skip e = nil
  stop-one before line Other e = nil
  stop-one before line (Broken c) e = nil
  stop-one before line (Opens o) e = nil
  stop-one before line (Ranges r) e = nil
  stop-one before line (Calls c) e = cons {x = c} (not-false _ (given-none _ 9 line (then-none _ _ e).1)) nil

  field-one : (before : List Line) (line : ℕ) (t : Told) → told before line t ≡ none → All (λ (r : RangeLine). FieldKnown r.field) (as_range t)
  field-one before line Skip e = nil
  field-one before line Other e = nil
  field-one before line (Broken c) e = nil
  field-one before line (Opens o) e = nil
  field-one before line (Ranges r) e = cons {x = r} (not-false _ (given-none _ 10 line (then-none _ _ (then-none _ _ e).1).0)) nil
  field-one before line (Calls c) e = nil

  -- a range has its line's bit field
  with-field : (b : ℕ) → FieldKnown b → (o : Option Legs) → All (λ (r : DayRange). FieldKnown r.field) (with_legs (λ (x : Legs). record { field = b; legs = x }) o)
  with-field b h none = nil
  with-field b h (some g) = cons {x = record { field = b; legs = g }} h nil

  fields-of : (cs : List Call) (p : RangeKind) {rs : List RangeLine} → All (λ (r : RangeLine). FieldKnown r.field × (r.part ≡ p)) rs → All (λ (r : DayRange). FieldKnown r.field) (gathered (day_range cs) rs)
  unfolding gathered
  fields-of cs p nil = nil
  fields-of cs p (cons {x = r} h t) = all_append (λ (r : DayRange). FieldKnown r.field) (with-field r.field h.0 (legs_on cs r)) (fields-of cs p t)

module _ (d : Delivery) (ls : List Line) (h : Fair d ls) where
  pub lines_read : All Read (tolds ls)
  unfolding tolds
  lines_read = first-keeps (own_offence d.fields d.stops d.classes) (λ (b : List Line). All Read (tolds b)) (λ before l o a. subst (All Read) (sym (tolds-more before l)) (all_append Read a (cons {x = told_in l.text} (read_one d before l.no (told_in l.text) o) nil))) ls h.own nil

  pub stops-known : All (StopKnown d) (calls_of ls)
  stops-known =
      calls-all (LineKnown d) (StopKnown d) (λ a l k. k) ls
      (all_said (LineKnown d) as_call (own_offence d.fields d.stops d.classes) (λ before l o. stop-one d before l.no (told_in l.text) o) ls h.own)

  pub fields_known : All (λ (r : DayRange). FieldKnown d r.field) (service_of ls).days
  unfolding service_of
  fields_known =
      fields-of d (calls_of ls) Days (all-part (λ (r : RangeLine). FieldKnown d r.field) Days ls
      (all_said (λ (r : RangeLine). FieldKnown d r.field) as_range (own_offence d.fields d.stops d.classes) (λ before l o. field-one d before l.no (told_in l.text) o) ls h.own))

-- ---- 16: each line of a range gives one range

with-one : {X : Type 0} (f : Legs → X) (o : Option Legs) → is_none o ≡ false → length (with_legs f o) ≡ 1
with-one f none e = clash (sym e)
with-one f (some g) e = refl

module _ (cs : List Call) where
  abbrev Found : RangeLine → Type 0
  Found r = is_none (legs_on cs r) ≡ false

  found-on : (rs : List (ℕ × RangeLine)) → ends_first cs rs ≡ none → All Found (map (λ (r : ℕ × RangeLine). r.1) rs)
  unfolding ends_first
  found-on [] e = nil
  found-on (r ∷ rs) e = let a = then-none _ _ e in cons {x = r.1} (given-none _ 16 r.0 a.0) (found-on rs a.1)

  -- as many ranges as lines, of one kind
  one_each : {X : Type 0} (range : RangeLine → List X) → ((r : RangeLine) → Found r → length (range r) ≡ 1) → (p : RangeKind) (ls : List Line) → All Found (ranges_of ls)
      → length (gathered range (part_lines p ls)) ≡ length (part_lines p ls)
  one_each range one p ls h = each-gives-one range (part_lines p ls) (all-to (λ (r : RangeLine). Found r × (r.part ≡ p)) (λ (r : RangeLine). length (range r) ≡ 1) (λ r f. one r f.0) (part_lines p ls) (all-part Found p ls h))

-- as many ranges as lines of ranges
pub record NoneDropped (ls : List Line) : Type 0 where
  pub categories : length (service_of ls).categories ≡ length (part_lines Category ls)
  pub days : length (service_of ls).days ≡ length (part_lines Days ls)
  pub extras : length (service_of ls).extras ≡ length (part_lines Extra ls)

ranges-found : (d : Delivery) (ls : List Line) → Fair d ls → All (Found (calls_of ls)) (ranges_of ls)
ranges-found d ls h = subst (All (Found (calls_of ls))) (said-on as_range ls) (found-on (calls_of ls) (said_on as_range ls) h.ranges)

-- of one kind
pub part-found : (d : Delivery) (ls : List Line) → Fair d ls → (p : RangeKind) → All (λ (r : RangeLine). is_none (legs_on (calls_of ls) r) ≡ false) (part_lines p ls)
part-found d ls h p =
    all-to (λ (r : RangeLine). Found (calls_of ls) r × (r.part ≡ p)) (Found (calls_of ls)) (λ r f. f.0) (part_lines p ls) (all-part (Found (calls_of ls)) p ls (ranges-found d ls h))

pub nothing-dropped : (d : Delivery) (ls : List Line) → Fair d ls → NoneDropped ls
unfolding service_of
nothing-dropped d ls h =
    let cs = calls_of ls in
    let found = ranges-found d ls h in
    record {
      categories = one_each cs (category_range cs) (λ r f. with-one _ (legs_on cs r) f) Category ls found;
      days = one_each cs (day_range cs) (λ r f. with-one _ (legs_on cs r) f) Days ls found;
      extras = one_each cs (extra_range cs) (λ r f. with-one _ (legs_on cs r) f) Extra ls found;
    }
