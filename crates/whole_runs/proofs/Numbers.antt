-- Every refusal has a number of at least 1: across the boundary a number of 0 says that nothing was refused. And a load's refusal has a column exactly
-- if it is 4. Assumes nothing.
use mathlib.Core.Path.{◌≡◌, refl, sym, ap, subst, ◌∙◌}
use mathlib.Core.Logic.{◌⊎◌, inl, inr}
use mathlib.Core.List.{List, [], ◌∷◌, ◌++◌}
use mathlib.Core.Bool.{Bool, true, false, cond, not, ◌&&◌, ◌||◌}
use mathlib.Core.Option.{Option, none, some}
use Prim.Native.Nat.{ℕ, ◌+◌, ◌%◌, ◌≤◌}
use native.Mathlib.Omega.{arith}
use lib.ListN.{length, replicate}
use lib.Dec.{ltb, leb, eqb}
use borrow.Author.Tests.{le-ltb, leb-true, eqb-false, not-true}
use Rattle.std.specs.Prelude.{Result, Ok, Err}
use Rattle.base.proofs.Laws.{apart}
use Rattle.base.proofs.Loops.{and-true}
use Rattle.bitfield.specs.BitField.{framed}
use Rattle.calendar.specs.Calendar.{day_of, date_in, period_of}
use Rattle.forms.specs.Form.{form_of, Form, Fits, Broken}
use Rattle.forms.specs.Columns.{date_columns, columns_of}
use Rattle.forms.specs.Kinds.{kind_of}
use Rattle.forms.specs.declared.Kind.{Kind}
use Rattle.forms.specs.declared.Kind.TheVariants.{Opening as OpeningKind, Frequency as FrequencyKind, Category as CategoryKind, Attribute as AttributeKind, Schedule as ScheduleKind, Other as OtherKind}
use Rattle.forms.specs.declared.LineKind.{LineKind}
use Rattle.forms.specs.declared.LineKind.TheVariants.{Date, BitField, Stop, Interchange, CategoryClass, Opening, Frequency, Category, Attribute, Schedule}
use Rattle.forms.proofs.Leftmost.{broken-from-1}
use Rattle.lines.specs.Lines.{Line, lines_of, skipped}
use Rattle.names.specs.Names.{is_name_list}
use Rattle.timetable.specs.Delivery.{Files, BitField as BitFieldRecord, StopRecord, Interchange as InterchangeRecord, CategoryClass as ClassRecord, CategoryRange, DayRange, Service}
use Rattle.timetable.specs.declared.Offence.{Offence}
use Rattle.timetable.specs.Offences.{offence_at, given, form_offence, ◌<|>◌, first}
use Rattle.timetable.specs.Files.{skip, held_in, held_by, held_offence, no_date, no_period, day_number, date_line_offence, period_line_offence, period_first}
use Rattle.timetable.specs.Files.{has_field, bit_field_of, bit_field_offence, bit_field_line_offence, bit_fields_first, has_stop, stop_of, named_stop_offence, stop_line_offence, stops_first}
use Rattle.names.specs.NameField.{name_field}
use Rattle.timetable.specs.Files.{has_interchange, interchange_of, interchange_offence, interchange_line_offence, interchanges_first}
use Rattle.timetable.specs.Files.{has_class, class_of, has_tariff, tariff_of, tariff_offence, class_offence, class_line_offence, classes_first}
use Rattle.timetable.specs.Table.{table_words, table_of, is_table}
use Rattle.timetable.specs.Plan.{opening_in, frequency_in, category_in, attribute_in, call_in, formed, told_by, told_in, as_range, part_lines, said_on}
use Rattle.timetable.specs.Service.{head_lines, blocks, first_line, called_on, calls_of, legs_on, service_of}
use Rattle.timetable.specs.Legs.{field_known, field_runs, leg_count}
use Rattle.timetable.specs.Checks.{most, category_listed, told_offence, is_none, each_once, torn, times_stated, times_rise, last_stated, times_first, ends_first, legs_first, service_checks, service_first, services_first, plan_first}
use Rattle.timetable.specs.Load.{delivered, Where, in_file, too_long, length_offence, content_offence, helper_needed, refused_or, short_or, onto, loaded, helped_by, helped}
use Rattle.timetable.specs.Layout.{most_file_bytes, most_class, most_calls}
use Rattle.timetable.specs.View.{view_of, interchange_at_stop, class_for}
use Rattle.timetable.specs.Questions.{minutes_for, date_of, day_by, day_in, day_asked, interchange_in, interchange_asked, between_in, between_asked, walk_refusal, walked}
use Rattle.timetable.specs.declared.Call.{Call}
use Rattle.timetable.specs.declared.RangeLine.{RangeLine}
use Rattle.timetable.specs.declared.Told.{Told}
use Rattle.timetable.specs.declared.Told.TheVariants.{Skip, Other, Broken as ToldBroken, Opens, Ranges, Calls}
use Rattle.timetable.specs.declared.Loaded.TheVariants.{Accepted, Refused}
use Rattle.timetable.proofs.Offences.{one_of}
use Rattle.timetable.specs.declared.refusal.Refusal.{Refusal as Named}
use Rattle.timetable.specs.Refusals.{number_of}
use Rattle.timetable.proofs.Numbered.{numbered as one_or_more}
use Rattle.whole_runs.specs.Promise.{AnyWalk, lists, short, nowhere, refuses}
use Rattle.whole_runs.proofs.Accepted.{accepted}

-- ---- the offences of a delivery

-- an offence has a number of at least 1, and a column exactly if it is 4
record Sound (number column : ℕ) : Type 0 where
  pub numbered : 1 ≤ number
  pub placed : number ≡ 4 → 1 ≤ column
  pub unplaced : (number ≡ 4 → ⊥) → column ≡ 0

-- an offence of what stands in the files is neither 1 nor 20 nor 51
record Inside (number column : ℕ) : Type 0 where
  pub sound : Sound number column
  pub not-1 : number ≡ 1 → ⊥
  pub not-20 : number ≡ 20 → ⊥
  pub not-51 : number ≡ 51 → ⊥

-- an offence, if there is one, is so
abbrev Numbered : Option Offence → Type 0
Numbered x = (o : Offence) → x ≡ some o → Inside o.number o.column

it : (number line column : ℕ) → Inside number column → Numbered (some (record { number = number; line = line; column = column }))
it number line column h o e = let z : number ≡ o.number = cc in let w : column ≡ o.column = cc in subst (λ (c : ℕ). Inside o.number c) w (subst (λ (n : ℕ). Inside n column) z h)

-- a number without a column
plain : (number : ℕ) → 1 ≤ number → (number ≡ 4 → ⊥) → Sound number 0
plain number h n = record { numbered = h; placed = λ e. absurd (n e); unplaced = λ e. refl }

-- a number that is none of 0, 1, 4, 20 and 51
abbrev other : ℕ → Bool
other n = leb 2 n && (not (eqb n 4) && (not (eqb n 20) && not (eqb n 51)))

without : (number : ℕ) → other number ≡ true → Inside number 0
without number h =
    let p = and-true (leb 2 number) (not (eqb number 4) && (not (eqb number 20) && not (eqb number 51))) h in
    let q = and-true (not (eqb number 4)) (not (eqb number 20) && not (eqb number 51)) p.1 in
    let r = and-true (not (eqb number 20)) (not (eqb number 51)) q.1 in
    let l = leb-true 2 number p.0 in
    record {
      sound = plain number (omega arith) (eqb-false number 4 (not-true (eqb number 4) q.0));
      not-1 = λ e. absurd (omega (arith, e));
      not-20 = eqb-false number 20 (not-true (eqb number 20) r.0);
      not-51 = eqb-false number 51 (not-true (eqb number 51) r.1);
    }

by-given : (t : Bool) (number line : ℕ) → other number ≡ true → Numbered (given t number line)
by-given true number line h o e = it number line 0 (without number h) o e
by-given false number line h o e = apart (cc)

by_form : (f : Form) (line : ℕ) → ((c : ℕ) → f ≡ Broken c → 1 ≤ c) → Numbered (form_offence f line)
by_form Fits line h o e = apart (cc)
by_form (Broken c) line h o e = it 4 line c (record { sound = record { numbered = omega arith; placed = λ z. h c refl; unplaced = λ z. absurd (z refl) }; not-1 = λ z. absurd (omega (arith, z)); not-20 = λ z. absurd (omega (arith, z)); not-51 = λ z. absurd (omega (arith, z)) }) o e

either : (a b : Option Offence) → Numbered a → Numbered b → Numbered (a <|> b)
either a b p q o e = one_of a b e (p o) (q o)

by-line : (off : List Line → Line → Option Offence) → ((before : List Line) (l : Line) → Numbered (off before l)) → (before ls : List Line) → Numbered (first off before ls)
unfolding first
by-line off h before [] o e = apart (cc)
by-line off h before (l ∷ ls) o e = either (off before l) (first off (before ++ (l ∷ [])) ls) (h before l) (by-line off h (before ++ (l ∷ [])) ls) o e

-- files 1 to 4 and 6

by-date : (l : Line) → Numbered (date_line_offence l)
by-date l = either _ _ (by_form (form_of date_columns l.text) l.no (broken-from-1 Date l.text)) (by-given (no_date (date_in l.text)) 5 l.no refl)

by-period-line : (before : List Line) (l : Line) → Numbered (period_line_offence before l)
by-period-line [] l o e = by-date l o e
by-period-line (s ∷ []) l o e = either _ _ (by-date l) (by-given (no_period (period_of (day_number (date_in s.text)) (day_number (date_in l.text)))) 5 l.no refl) o e
by-period-line (s ∷ t ∷ []) l o e = apart (cc)
by-period-line (s ∷ t ∷ u ∷ before) l o e = it 3 l.no 0 (without 3 refl) o e

by-period : (ls : List Line) → Numbered (period_first ls)
unfolding period_first
by-period ls = either _ _ (by-line _ by-period-line [] ls) (by-given (ltb (length ls) 3) 2 (length ls + 1) refl)

-- a line of a kind that holds x if it is not skipped and has the form
by-held : {X : Type 0} (own : X → Option Offence) → ((x : X) → Numbered (own x)) → (kind : LineKind) (line : ℕ) (text : List ℕ) (x : X)
    → Numbered (held_offence own line (cond (skipped text) skip (held_by (form_of (columns_of kind) text) x)))
by-held own k kind line text x = go (skipped text) (form_of (columns_of kind) text) (broken-from-1 kind text)
  where
    go : (t : Bool) (f : Form) → ((c : ℕ) → f ≡ Broken c → 1 ≤ c) → Numbered (held_offence own line (cond t skip (held_by f x)))
    go true f h o e = apart (cc)
    go false Fits h o e = k x o e
    go false (Broken c) h o e = by_form (Broken c) line h o e

by_field : (n : ℕ) (before : List Line) (l : Line) → Numbered (bit_field_line_offence n before l)
by_field n before l =
    by-held (bit_field_offence n (held_in bit_field_of before) l.no) (λ f.
    either _ _ (by-given (eqb f.number 0) 7 l.no refl)
    (either _ _ (by-given (has_field f.number (held_in bit_field_of before)) 6 l.no refl) (by-given (not (framed n f.words)) 8 l.no refl)))
    BitField l.no l.text _

by-stop : (before : List Line) (l : Line) → Numbered (stop_line_offence before l)
by-stop before l =
    by-held (named_stop_offence (held_in stop_of before) l.no l.text) (λ s.
    either _ _ (by-given (not (is_name_list (name_field l.text))) 39 l.no refl)
    (either _ _ (by-given (eqb s.number 9999999 || eqb (s.number % 100000) 0) 7 l.no refl) (by-given (has_stop s.number (held_in stop_of before)) 6 l.no refl)))
    Stop l.no l.text _

module _ (stops : List StopRecord) where
  by-record : (earlier : List InterchangeRecord) (line : ℕ) (c : InterchangeRecord) → Numbered (interchange_offence stops earlier line c)
  by-record [] line c = by-given (not (eqb c.number 9999999)) 7 line refl
  by-record (x ∷ earlier) line c = either _ _ (by-given (has_interchange c.number (x ∷ earlier)) 6 line refl) (by-given (not (has_stop c.number stops)) 9 line refl)

  by-interchange : (before : List Line) (l : Line) → Numbered (interchange_line_offence stops before l)
  by-interchange before l = by-held (interchange_offence stops (held_in interchange_of before) l.no) (by-record (held_in interchange_of before) l.no) Interchange l.no l.text _

  by-interchanges : (ls : List Line) → Numbered (interchanges_first stops ls)
  unfolding interchanges_first
  by-interchanges ls = either _ _ (by-line _ by-interchange [] ls) (by-given (eqb (length (held_in interchange_of ls)) 0) 2 (length ls + 1) refl)

by-tariff : (tariffs : List Bool) (line : ℕ) (has : Bool) → Numbered (tariff_offence tariffs line has)
by-tariff [] line has o e = apart (cc)
by-tariff (first ∷ earlier) line has o e = by-given (cond first (not has) has) 37 line refl o e

by-class : (before : List Line) (l : Line) → Numbered (class_line_offence before l)
by-class before l =
    by-held (class_offence (held_in class_of before) (held_in tariff_of before) l.no l.text) (λ c.
    either _ _ (by-given (has_class c.code (held_in class_of before)) 6 l.no refl) (by-tariff (held_in tariff_of before) l.no (has_tariff l.text)))
    CategoryClass l.no l.text _

-- FPLAN

-- what a line of FPLAN says, where its form is broken at a column
told-from-1 : (text : List ℕ) (c : ℕ) → told_in text ≡ ToldBroken c → 1 ≤ c
unfolding told_in
told-from-1 text c e = go (skipped text) (kind_of text) e
  where
    by : (kind : LineKind) (t : Told) → ((d : ℕ) → t ≡ ToldBroken d → ⊥) → formed (form_of (columns_of kind) text) t ≡ ToldBroken c → 1 ≤ c
    by kind t n e = on (form_of (columns_of kind) text) refl e
      where
        on : (f : Form) → form_of (columns_of kind) text ≡ f → formed f t ≡ ToldBroken c → 1 ≤ c
        on Fits q e = absurd (n c e)
        on (Broken d) q e = let z : d ≡ c = cc in let p = broken-from-1 kind text d q in omega (arith, z, p)

    go : (t : Bool) (k : Kind) → cond t Skip (told_by k text) ≡ ToldBroken c → 1 ≤ c
    go true k e = apart (cc)
    go false OpeningKind e = by Opening (Opens (opening_in text)) (λ d z. apart (cc)) e
    go false FrequencyKind e = by Frequency (Opens (frequency_in text)) (λ d z. apart (cc)) e
    go false CategoryKind e = by Category (Ranges (category_in text)) (λ d z. apart (cc)) e
    go false AttributeKind e = by Attribute (Ranges (attribute_in text)) (λ d z. apart (cc)) e
    go false ScheduleKind e = by Schedule (Calls (call_in text)) (λ d z. apart (cc)) e
    go false OtherKind e = apart (cc)

by_call : (n i before : ℕ) (cs : List (ℕ × Call)) → Numbered (times_first n i before cs)
unfolding times_first
by_call n i before [] o e = apart (cc)
by_call n i before (c ∷ cs) o e = either _ _ (by-given (not (times_stated n i c.1 && times_rise before c.1)) 15 c.0 refl) (by_call n (i + 1) (last_stated before c.1) cs) o e

by-ends : (cs : List Call) (rs : List (ℕ × RangeLine)) → Numbered (ends_first cs rs)
unfolding ends_first
by-ends cs [] o e = apart (cc)
by-ends cs (r ∷ rs) o e = either _ _ (by-given (is_none (legs_on cs r.1)) 16 r.0 refl) (by-ends cs rs) o e

module _ (fields : List BitFieldRecord) (stops : List StopRecord) (classes : List ClassRecord) (n : ℕ) where
  by-told : (before : List Line) (line : ℕ) (t : Told) → ((c : ℕ) → t ≡ ToldBroken c → 1 ≤ c) → Numbered (told_offence fields stops classes before line t)
  by-told before line Skip h o e = apart (cc)
  by-told before line Other h o e = it 11 line 0 (without 11 refl) o e
  by-told before line (ToldBroken c) h o e = by_form (Broken c) line (λ d z. let w : c ≡ d = cc in omega (arith, w, h c refl)) o e
  by-told before line (Opens y) h o e = apart (cc)
  by-told before line (Ranges r) h o e =
      either _ _ (by-given (leb (most r.part) (length (part_lines r.part before))) 13 line refl)
      (either _ _ (by-given (not (field_known r.field fields)) 10 line refl) (by-given (not (category_listed r.part r.name classes)) 38 line refl)) o e
  by-told before line (Calls c) h o e =
      either _ _ (by-given (leb most_calls (length (calls_of before))) 13 line refl) (by-given (not (has_stop c.stop stops)) 9 line refl) o e

  by-legs : (line : ℕ) (s : Service) → Numbered (legs_first fields n line s)
  by-legs line s =
      either _ _ (by-given (not (each_once (λ (r : CategoryRange). r.legs) (leg_count s) s.categories)) 17 line refl)
      (either _ _ (by-given (not (each_once (λ (r : DayRange). r.legs) (leg_count s) s.days)) 18 line refl) (by-given (torn fields n s) 19 line refl))

  by-check : (ls : List Line) → Numbered (service_checks fields n ls)
  unfolding service_checks
  by-check ls =
      either _ _ (by-given (ltb (length (calls_of ls)) 2) 14 (first_line ls).no refl)
      (either _ _ (by_call (length (calls_of ls)) 0 0 (called_on ls))
      (either _ _ (by-ends (calls_of ls) (said_on as_range ls)) (by-legs (first_line ls).no (service_of ls))))

  by-service : (bs : List (List Line)) → Numbered (services_first fields stops classes n bs)
  unfolding services_first service_first
  by-service [] o e = apart (cc)
  by-service (b ∷ bs) o e = either _ _ (either _ _ (by-line _ (λ before l. by-told before l.no (told_in l.text) (told-from-1 l.text)) [] b) (by-check b)) (by-service bs) o e

  by-plan : (ls : List Line) → Numbered (plan_first fields stops classes n ls)
  unfolding plan_first
  by-plan ls = either _ _ (by-line _ (λ before l. by-given (not (skipped l.text)) 12 l.no refl) [] (head_lines ls)) (by-service (blocks ls))

module _ {w : Where} where
  -- what an offence of a file says is its number and its column
  by-file : (f : ℕ) (o : Option Offence) → Numbered o → in_file f o ≡ some w → Inside w.offence.number w.offence.column
  by-file f none h e = apart (cc)
  by-file f (some x) h e = let z : x ≡ w.offence = cc in let p = h x refl in subst (λ (y : Offence). Inside y.number y.column) z p

  content-inside : (f : Files) → content_offence f ≡ some w → Inside w.offence.number w.offence.column
  unfolding content_offence bit_fields_first stops_first classes_first
  content-inside f e =
      one_of _ _ e (by-file 1 _ (by-period (lines_of f.eckdaten)))
      (λ e. one_of _ _ e (by-file 2 _ (by-line _ (by_field (delivered f).period.n) [] (lines_of f.bitfeld)))
      (λ e. one_of _ _ e (by-file 3 _ (by-line _ by-stop [] (lines_of f.bahnhof)))
      (λ e. one_of _ _ e (by-file 4 _ (by-interchanges (delivered f).stops (lines_of f.umsteigb)))
      (λ e. one_of _ _ e (by-file 6 _ (by-line _ by-class [] (lines_of f.zugart)))
      (by-file 5 _ (by-plan (delivered f).fields (delivered f).stops (delivered f).classes (delivered f).period.n (lines_of f.fplan)))))))

  -- a file's length is an offence 1
  by_length : (f : ℕ) (s : List ℕ) → too_long f s ≡ some w → w.offence ≡ offence_at 1 0
  by_length f s e = go (ltb most_file_bytes (length s)) e
    where
      go : (t : Bool) → in_file f (given t 1 0) ≡ some w → w.offence ≡ offence_at 1 0
      go true e = let z : offence_at 1 0 ≡ w.offence = cc in sym z
      go false e = apart (cc)

  length-1 : (f : Files) → length_offence f ≡ some w → w.offence ≡ offence_at 1 0
  unfolding length_offence
  length-1 f e =
      one_of _ _ e (by_length 1 f.eckdaten) (λ e. one_of _ _ e (by_length 2 f.bitfeld) (λ e. one_of _ _ e (by_length 3 f.bahnhof)
      (λ e. one_of _ _ e (by_length 4 f.umsteigb) (λ e. one_of _ _ e (by_length 6 f.zugart) (by_length 5 f.fplan)))))

pub content-not-20 : (f : Files) {w : Where} → content_offence f ≡ some w → w.offence.number ≡ 20 → ⊥
content-not-20 f {w} e = (content-inside {w = w} f e).not-20

pub length-not-20 : (f : Files) {w : Where} → length_offence f ≡ some w → w.offence.number ≡ 20 → ⊥
length-not-20 f {w} e z = let o = length-1 {w = w} f e in let n : ◌≡◌ {A = ℕ} 1 20 = sym (ap (λ (y : Offence). y.number) o) ∙ z in absurd (omega (arith, n))

-- ---- the answers

-- how a load is refused: 1 for a file's length, 51, or 20 or an offence of what stands in the files
data Refusal (f : Files) (helper : ℕ) : ℕ → ℕ → Type 0 where
  long : (w : Where) → length_offence f ≡ some w → Refusal f helper 1 0
  few : length_offence f ≡ none → ltb helper (helper_needed f) ≡ true → Refusal f helper 51 0
  scant : length_offence f ≡ none → ltb helper (helper_needed f) ≡ false → Refusal f helper 20 0
  inside : {number column : ℕ} → length_offence f ≡ none → ltb helper (helper_needed f) ≡ false → Inside number column → Refusal f helper number column

module _ (f : Files) (room helper number file line column needed : ℕ) (e : loaded f room helper ≡ Refused number file line column needed) where
  refusal : Refusal f helper number column
  unfolding loaded
  refusal = at_length (length_offence f) refl e
    where
      at_room : length_offence f ≡ none → ltb helper (helper_needed f) ≡ false → (t : Bool) (n : ℕ) → cond t (Refused 20 0 0 0 n) (Accepted n) ≡ Refused number file line column needed → Refusal f helper number column
      at_room p q true n e = let z : ◌≡◌ {A = ℕ} 20 number = cc in let w : ◌≡◌ {A = ℕ} 0 column = cc in subst (λ (c : ℕ). Refusal f helper number c) w (subst (λ (n : ℕ). Refusal f helper n 0) z (scant p q))
      at_room p q false n e = apart (cc)

      at-content : length_offence f ≡ none → ltb helper (helper_needed f) ≡ false → (o : Option Where) → content_offence f ≡ o → (n : ℕ) → refused_or o (short_or 20 room n (Accepted n)) ≡ Refused number file line column needed → Refusal f helper number column
      at-content p q none c n e = at_room p q (ltb room n) n e
      at-content p q (some x) c n e =
          let z : x.offence.number ≡ number = cc in
          let w : x.offence.column ≡ column = cc in
          subst (λ (c : ℕ). Refusal f helper number c) w (subst (λ (n : ℕ). Refusal f helper n x.offence.column) z (inside p q (content-inside {w = x} f c)))

      at-helper : length_offence f ≡ none → (t : Bool) → ltb helper (helper_needed f) ≡ t → (n : ℕ) → cond t (Refused 51 0 0 0 n) (refused_or (content_offence f) (short_or 20 room (length (table_words (delivered f))) (Accepted (length (table_words (delivered f)))))) ≡ Refused number file line column needed → Refusal f helper number column
      at-helper p true q n e = let z : ◌≡◌ {A = ℕ} 51 number = cc in let w : ◌≡◌ {A = ℕ} 0 column = cc in subst (λ (c : ℕ). Refusal f helper number c) w (subst (λ (n : ℕ). Refusal f helper n 0) z (few p q))
      at-helper p false q n e = at-content p q (content_offence f) refl _ e

      at_length : (o : Option Where) → length_offence f ≡ o → refused_or o (short_or 51 helper (helper_needed f) (refused_or (content_offence f) (short_or 20 room (length (table_words (delivered f))) (Accepted (length (table_words (delivered f))))))) ≡ Refused number file line column needed → Refusal f helper number column
      at_length none p e = at-helper p (ltb helper (helper_needed f)) refl (helper_needed f) e
      at_length (some x) p e =
          let o = length-1 {w = x} f p in
          let z : x.offence.number ≡ number = cc in
          let w : x.offence.column ≡ column = cc in
          subst (λ (c : ℕ). Refusal f helper number c) (sym (ap (λ (y : Offence). y.column) o) ∙ w) (subst (λ (n : ℕ). Refusal f helper n 0) (sym (ap (λ (y : Offence). y.number) o) ∙ z) (long x p))

  load-sound : Sound number column
  load-sound = go refusal
    where
      go : {n c : ℕ} → Refusal f helper n c → Sound n c
      go (long w p) = plain 1 (omega arith) (λ z. absurd (omega (arith, z)))
      go (few p q) = plain 51 (omega arith) (λ z. absurd (omega (arith, z)))
      go (scant p q) = plain 20 (omega arith) (λ z. absurd (omega (arith, z)))
      go (inside p q h) = h.sound

  pub load-numbered : 1 ≤ number
  load-numbered = load-sound.numbered

  -- "A refusal 4 also returns the column ..; all other refusals return 0 there."
  pub load-columned : (number ≡ 4 → 1 ≤ column) × ((number ≡ 4 → ⊥) → column ≡ 0)
  load-columned = (load-sound.placed, load-sound.unplaced)

-- No. 13: "Those words hold 0 afterwards; any further ones stay. .. after 1 and 51 all helper words stay." By the number that is answered:
module _ (f : Files) (h : List ℕ) where
  kept-long : (w : Where) → length_offence f ≡ some w → helped f h ≡ h
  unfolding helped
  kept-long w p = rw p refl

  kept-few : length_offence f ≡ none → ltb (length h) (helper_needed f) ≡ true → helped f h ≡ h
  unfolding helped
  kept-few p q = rw (p, q) refl

  zeros : length_offence f ≡ none → ltb (length h) (helper_needed f) ≡ false → helped f h ≡ onto (replicate (helper_needed f) 0) h
  unfolding helped
  zeros p q = rw (p, q) refl

  module _ (room number file line column needed : ℕ) (e : loaded f room (length h) ≡ Refused number file line column needed) where
    pub helper-stays : (number ≡ 1) ⊎ (number ≡ 51) → helped f h ≡ h
    helper-stays = go (refusal f room (length h) number file line column needed e)
      where
        go : {n c : ℕ} → Refusal f (length h) n c → (n ≡ 1) ⊎ (n ≡ 51) → helped f h ≡ h
        go (long w p) x = kept-long w p
        go (few p q) x = kept-few p q
        go (scant p q) (inl x) = absurd (omega (arith, x))
        go (scant p q) (inr x) = absurd (omega (arith, x))
        go (inside p q i) (inl x) = absurd (i.not-1 x)
        go (inside p q i) (inr x) = absurd (i.not-51 x)

    pub helper-zeros : (number ≡ 1 → ⊥) → (number ≡ 51 → ⊥) → helped f h ≡ onto (replicate (helper_needed f) 0) h
    helper-zeros = go (refusal f room (length h) number file line column needed e)
      where
        go : {n c : ℕ} → Refusal f (length h) n c → (n ≡ 1 → ⊥) → (n ≡ 51 → ⊥) → helped f h ≡ onto (replicate (helper_needed f) 0) h
        go (long w p) x y = absurd (x refl)
        go (few p q) x y = absurd (y refl)
        go (scant p q) x y = zeros p q
        go (inside p q i) x y = zeros p q

  pub helper-accepted : (room u : ℕ) → loaded f room (length h) ≡ Accepted u → helped f h ≡ onto (replicate (helper_needed f) 0) h
  helper-accepted room u e = let a = accepted f room (length h) u e in zeros a.short-files (le-ltb (length h) (helper_needed f) a.helper-room)

pub day-numbered : (w : List ℕ) (d m y b : ℕ) (refusal : Named) → day_asked w d m y b ≡ Err refusal → 1 ≤ number_of refusal
day-numbered w d m y b refusal e = one_or_more refusal

pub interchange-numbered : (w : List ℕ) (n a b : ℕ) (refusal : Named) → interchange_asked w n a b ≡ Err refusal → 1 ≤ number_of refusal
interchange-numbered w n a b refusal e = one_or_more refusal

pub between-numbered : (w : List ℕ) (n a b : ℕ) (refusal : Named) → between_asked w n a b ≡ Err refusal → 1 ≤ number_of refusal
between-numbered w n a b refusal e = one_or_more refusal

pub walk-numbered : (w : List ℕ) (i r d m y room needed : ℕ) (refusal : Named) → walked w i r d m y room ≡ Err (walk_refusal refusal needed) → 1 ≤ number_of refusal
walk-numbered w i r d m y room needed refusal e = one_or_more refusal
