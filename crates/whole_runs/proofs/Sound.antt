-- Whatever its lines, a service's calls and ranges are sound: times, flags, repeats and range ends stay within what a table allows.
-- Assumes nothing.
use mathlib.Core.Path.{◌≡◌, refl, subst}
use mathlib.Core.List.{List, [], ◌∷◌}
use mathlib.Core.Bool.{true}
use Prim.Native.Nat.{ℕ, ◌+◌, ◌-◌, ◌≤◌}
use native.Mathlib.Omega.{arith}
use lib.ListN.{length}
use borrow.Author.Tests.{le-leb}
use Rattle.base.specs.Lists.{All, nil, cons, every, gathered}
use Rattle.columns.specs.Columns.{columns}
use Rattle.columns.proofs.Laws.{columns-lt}
use Rattle.fields.proofs.Bounds.{stated-le}
use Rattle.fields.specs.Fields.{time}
use Rattle.fields.specs.declared.Time.{Time}
use Rattle.fields.specs.declared.Time.TheVariants.{Absent, Stated, NoTime}
use Rattle.forms.specs.Form.{form_of, Form, Fits, Broken as BrokenForm}
use Rattle.forms.proofs.Laws.{row-holds, from-one-says}
use Rattle.forms.specs.Columns.{service_columns, frequency_columns, category_columns, attribute_columns, call_columns}
use Rattle.forms.specs.Kinds.{kind_of}
use Rattle.forms.specs.declared.Kind.{Kind}
use Rattle.forms.specs.declared.Kind.TheVariants.{Opening as OpeningKind, Frequency, Category as CategoryKind, Attribute, Schedule, Other as OtherKind}
use Rattle.lines.specs.Lines.{Line, skipped}
use Rattle.timetable.specs.Runs.{opening_sound}
use Rattle.timetable.specs.Layout.{most_repeats, most_running, latest_time, all_flags}
use Rattle.timetable.specs.Delivery.{Legs, CategoryRange, DayRange, ExtraRange}
use Rattle.timetable.specs.Plan.{opening_in, frequency_in, category_in, attribute_in, minutes_of, flags_of, call_in, formed, told_by, told_in, tolds, as_opening, as_call, part_lines}
use Rattle.timetable.specs.Service.{loose, legs_on, category_range, day_range, extra_range, first_line, first_opening, call_by, calls_of, service_of}
use Rattle.timetable.specs.Table.{legs_sound}
use Rattle.timetable.specs.declared.Announced.{Announced}
use Rattle.timetable.specs.declared.Call.{Call}
use Rattle.timetable.specs.declared.CallLine.{CallLine}
use Rattle.timetable.specs.declared.RangeKind.{RangeKind}
use Rattle.timetable.specs.declared.RangeKind.TheVariants.{Category, Days, Extra}
use Rattle.timetable.specs.declared.RangeLine.{RangeLine}
use Rattle.timetable.specs.declared.Told.{Told}
use Rattle.timetable.specs.declared.Told.TheVariants.{Skip, Other, Broken, Opens, Ranges, Calls}
use Rattle.timetable.proofs.Calls.{calls-all}
use Rattle.timetable.proofs.Lines.{flags-le}
use Rattle.whole_runs.specs.OldTable.{old_call_sound, old_service_sound}
use Rattle.whole_runs.proofs.Ends.{legs-sound, with-sound}
use Rattle.whole_runs.proofs.Parts.{part-lines}
use Rattle.whole_runs.proofs.Lists.{cond-all, all_append, all-gathered, every-all}

-- ---- times

pub minutes-le : (p : List ℕ) → minutes_of (time p) ≤ latest_time
minutes-le p = go (time p) refl
  where
    go : (t : Time) → time p ≡ t → minutes_of t ≤ latest_time
    go Absent e = omega arith
    go (Stated m barred) e = stated-le p m barred e
    go NoTime e = omega arith

call-sound : (text : List ℕ) (b : Announced) → old_call_sound (call_by b (call_in text)) ≡ true
call-sound text b =
    let a = time (columns 30 35 text) in
    let d = time (columns 37 42 text) in
    rw (
      le-leb (minutes_of a) latest_time (minutes-le (columns 30 35 text)),
      le-leb (minutes_of d) latest_time (minutes-le (columns 37 42 text)),
      le-leb (flags_of 1 a + flags_of 2 d) all_flags (omega (arith, flags-le 1 a, flags-le 2 d)),
    )

-- ---- what holds of all that a line may say holds of what it says

module _ (P : Told → Type 0) where
  formed-all : (f : Form) (t : Told) → ((c : ℕ) → P (Broken c)) → P t → P (formed f t)
  formed-all Fits t p q = q
  formed-all (BrokenForm c) t p q = p c

  -- where it matters that the line has the form
  formed-by : (f : Form) (t : Told) → ((c : ℕ) → P (Broken c)) → (f ≡ Fits → P t) → P (formed f t)
  formed-by Fits t p q = q refl
  formed-by (BrokenForm c) t p q = p c

  pub told-all : (text : List ℕ) → P Skip → P Other → ((c : ℕ) → P (Broken c)) → P (Opens (opening_in text)) → (form_of frequency_columns text ≡ Fits → P (Opens (frequency_in text))) → ((r : RangeLine) → P (Ranges r)) → P (Calls (call_in text)) → P (told_in text)
  unfolding told_in
  told-all text skip other broken o q r c = cond-all P (skipped text) Skip (told_by (kind_of text) text) skip (kind (kind_of text))
    where
      kind : (k : Kind) → P (told_by k text)
      kind OpeningKind = formed-all (form_of service_columns text) (Opens (opening_in text)) broken o
      kind Frequency = formed-by (form_of frequency_columns text) (Opens (frequency_in text)) broken q
      kind CategoryKind = formed-all (form_of category_columns text) (Ranges (category_in text)) broken (r _)
      kind Attribute = formed-all (form_of attribute_columns text) (Ranges (attribute_in text)) broken (r _)
      kind Schedule = formed-all (form_of call_columns text) (Calls (call_in text)) broken c
      kind OtherKind = other

-- the calls of lines
abbrev LineSound : CallLine → Type 0
LineSound l = (b : Announced) → old_call_sound (call_by b l) ≡ true

lines_sound : (ls : List Line) → All LineSound (gathered as_call (tolds ls))
unfolding tolds gathered
lines_sound [] = nil
lines_sound (l ∷ ls) =
    all_append LineSound
    (told-all (λ (t : Told). All LineSound (as_call t)) l.text nil nil (λ c. nil) nil (λ f. nil) (λ r. nil) (cons {x = call_in l.text} (call-sound l.text) nil))
    (lines_sound ls)

pub calls-sound : (ls : List Line) → All (λ (c : Call). old_call_sound c ≡ true) (calls_of ls)
calls-sound ls = calls-all LineSound (λ (c : Call). old_call_sound c ≡ true) (λ b l h. h b) ls (lines_sound ls)

-- "repeats or offset over 999": three columns each of a *Z
repeated-sound : (text : List ℕ) → opening_sound (opening_in text) ≡ true
unfolding opening_sound
repeated-sound text = rw (le-leb (opening_in text).repeats most_repeats (omega (arith, columns-lt 23 25 text)), le-leb (opening_in text).offset most_repeats (omega (arith, columns-lt 27 29 text)))

-- "9,999 there but no density 0": four columns each of a *T, and what its form asks of the density
frequency-sound : (text : List ℕ) → form_of frequency_columns text ≡ Fits → opening_sound (frequency_in text) ≡ true
unfolding opening_sound
frequency-sound text f =
    rw (
      le-leb (frequency_in text).repeats most_running (omega (arith, columns-lt 17 20 text)),
      le-leb 1 (frequency_in text).offset (from-one-says text (columns 22 25 text) (row-holds frequency_columns text 4 f)),
      le-leb (frequency_in text).offset most_running (omega (arith, columns-lt 22 25 text)),
    )

opening-sound : (text : List ℕ) → opening_sound (first_opening (as_opening (told_in text))) ≡ true
unfolding opening_sound
opening-sound text = told-all (λ (t : Told). opening_sound (first_opening (as_opening t)) ≡ true) text refl refl (λ c. refl) (repeated-sound text) (frequency-sound text) (λ r. refl) refl

-- ---- a service, whatever its lines

-- the ranges of one kind: those that are found lie on the route, in the order that their kind asks for
ranges-sound : {X : Type 0} (range : RangeLine → List X) (legs : X → Legs) (cs : List Call) (p : RangeKind) (ls : List Line)
    → ((r : RangeLine) → All (λ x. legs_sound (loose r.part) (length cs) (legs x) ≡ true) (range r))
    → every (λ x. legs_sound (loose p) (length cs) (legs x)) (gathered range (part_lines p ls)) ≡ true
ranges-sound range legs cs p ls one =
    every-all (λ x. legs_sound (loose p) (length cs) (legs x))
    (all-gathered (λ x. legs_sound (loose p) (length cs) (legs x) ≡ true) range
    (λ r e. subst (λ (q : RangeKind). All (λ x. legs_sound (loose q) (length cs) (legs x) ≡ true) (range r)) e (one r)) (part-lines p ls))

pub service-sound : (ls : List Line) → old_service_sound (service_of ls) ≡ true
unfolding service_of
service-sound ls =
    let cs = calls_of ls in
    let o = opening-sound (first_line ls).text in
    let c = every-all old_call_sound (calls-sound ls) in
    let g = ranges-sound (category_range cs) (λ (r : CategoryRange). r.legs) cs Category ls (λ x. with-sound (loose x.part) cs _ (λ (r : CategoryRange). r.legs) (λ g. refl) (legs_on cs x) (legs-sound (loose x.part) cs x.ends)) in
    let v = ranges-sound (day_range cs) (λ (r : DayRange). r.legs) cs Days ls (λ x. with-sound (loose x.part) cs _ (λ (r : DayRange). r.legs) (λ g. refl) (legs_on cs x) (legs-sound (loose x.part) cs x.ends)) in
    let a = ranges-sound (extra_range cs) (λ (r : ExtraRange). r.legs) cs Extra ls (λ x. with-sound (loose x.part) cs _ (λ (r : ExtraRange). r.legs) (λ g. refl) (legs_on cs x) (legs-sound (loose x.part) cs x.ends)) in
    rw (o, c, g, v, a)
