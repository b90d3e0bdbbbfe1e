-- The table of a delivery without an offence is a table (`table_is`) and reads back as the delivery (`table-holds`), and every question is answered
-- from it as from the delivery itself: `walk-accepted`, `day-accepted`, `interchange-accepted`. Assumes nothing.
use mathlib.Core.Path.{◌≡◌, refl, sym, ap, ◌∙◌}
use mathlib.Core.List.{List, ◌++◌, map}
use mathlib.Core.Bool.{Bool, true, false, cond, ◌&&◌}
use mathlib.Core.Option.{Option, none, some}
use Prim.Native.Nat.{ℕ, zero, suc, ◌+◌, ◌≤◌}
use native.Mathlib.Omega.{arith}
use lib.ListN.{length, take, take-append-drop, drop, length-append, length-map}
use lib.Seq.{take_at, drop_at}
use lib.Dec.{ltb, leb, eqb}
use borrow.Author.Tests.{le-leb, le-ltb, ltb-false, eqb-false, eq-eqb}
use Rattle.std.specs.Prelude.{Err}
use Rattle.base.specs.Lists.{All, nil, cons, every, gathered}
use Rattle.base.proofs.Laws.{apart}
use Rattle.calendar.specs.Calendar.{last_day}
use Rattle.lines.specs.Lines.{lines_of}
use Rattle.timetable.specs.Delivery.{Files, Service, Delivery}
use Rattle.timetable.specs.Files.{has_stop, held_in, interchange_of, interchanges_first}
use Rattle.timetable.specs.Offences.{◌<|>◌}
use Rattle.timetable.specs.Load.{Where, delivered, length_offence, content_offence, offence, onto, helper_needed, refused_or, short_or, loaded, written_by, written}
use Rattle.timetable.specs.Layout.{header_size, service_head, first_service, most_period_days, most_calls, most_categories, most_days, most_extras}
use Rattle.timetable.specs.Table.{stop_place, with_stop, pointing, service_size, service_words, table_words}
use Rattle.timetable.specs.Table.{word_count_in, calls#, categories#, days#, extras#, used_words, first_day, period_days, bit_fields#, stops#, interchanges#, services#, services_place, classes#}
use Rattle.timetable.specs.Table.{table_of, head_sound, class_sound, is_table}
use Rattle.timetable.specs.View.{View, view_of}
use Rattle.timetable.specs.Questions.{asked, day_in, day_asked, interchange_in, interchange_asked, refused, journey, walk_of}
use Rattle.timetable.specs.declared.refusal.Refusal.{Refusal}
use Rattle.timetable.specs.declared.Loaded.{Loaded}
use Rattle.timetable.specs.declared.Loaded.TheVariants.{Accepted, Refused}
use Rattle.timetable.proofs.Offences.{then-none, given-none}
use Rattle.timetable.proofs.Records.{twelve, service-length, service-back}
use Rattle.whole_runs.specs.OldTable.{old_sections, old_table_words, old_table_of, old_service_sound, old_record_sound, old_records_sound, old_is_table}
use Rattle.whole_runs.proofs.Lists.{all-to}
use Rattle.whole_runs.proofs.Places.{StopsKnown, pointing-sound, services-below, pointed, resolved_all, pointed-back, words-pointed, read-resolved, table-by-places}
use Rattle.whole_runs.proofs.Back.{words-length, used-back, to-services, sections-length, fields-twelve, words_back}
use Rattle.whole_runs.proofs.Clear.{Clear, clear}
use Rattle.whole_runs.proofs.ClassLines.{classes-sound}
use Rattle.whole_runs.proofs.Period.{PeriodSound, period-sound}
use Rattle.whole_runs.proofs.Right.{Right, services-right}

-- ---- the services are the records of a table

head-words : (s : Service) (r : List ℕ) → (word_count_in (service_words s ++ r) ≡ service_size s) × (calls# (service_words s ++ r) ≡ length s.calls) × (categories# (service_words s ++ r) ≡ length s.categories) × (days# (service_words s ++ r) ≡ length s.days) × (extras# (service_words s ++ r) ≡ length s.extras)
unfolding service_words
head-words s r = (refl, refl, refl, refl, refl)

-- what a table asks of a record, but for the places that its calls point at
pub record Sized (s : Service) : Type 0 where
  pub sound : old_service_sound s ≡ true
  pub two : 2 ≤ length s.calls
  pub most-calls : length s.calls ≤ most_calls
  pub most-categories : length s.categories ≤ most_categories
  pub most-days : length s.days ≤ most_days
  pub most-extras : length s.extras ≤ most_extras

record-sound : (s : Service) → Sized s → (r : List ℕ) → old_record_sound (service_words s ++ r) ≡ true
unfolding old_record_sound
record-sound s h r =
    let q = head-words s r in
    let l : length (service_words s ++ r) ≡ service_size s + length r = length-append (service_words s) r ∙ rw (service-length s) in
    rw (
      q.0,
      q.1,
      q.2,
      q.3,
      q.4,
      l,
      service-back s r,
      le-leb service_head (service_size s + length r) (omega arith),
      le-leb 2 (length s.calls) h.two,
      le-leb (length s.calls) most_calls h.most-calls,
      le-leb (length s.categories) most_categories h.most-categories,
      le-leb (length s.days) most_days h.most-days,
      le-leb (length s.extras) most_extras h.most-extras,
      eq-eqb (service_size s) (service_size s) refl,
      le-leb (service_size s) (service_size s + length r) (omega arith),
      h.sound,
    )

records-sound : {ss : List Service} → All Sized ss → old_records_sound (length ss) (gathered service_words ss) ≡ true
unfolding old_records_sound gathered
records-sound nil = refl
records-sound (cons {x = s} {xs = ss} h t) =
    let r = gathered service_words ss in
    rw (record-sound s h r, (head-words s r).0, drop_at (service_words s) r (service_size s) (service-length s)) (records-sound t)

-- ---- the table

-- what a table keeps, of a delivery
pub record Sound (d : Delivery) : Type 0 where
  pub twelves : All twelve d.fields
  pub period : PeriodSound d.period
  pub interchanges : 1 ≤ length d.interchanges
  pub classes : every class_sound d.classes ≡ true
  pub services : All Sized d.services

header-words : (d : Delivery) (r : List ℕ) → (used_words (old_table_words d ++ r) ≡ header_size + length (old_sections d)) × (first_day (old_table_words d ++ r) ≡ d.period.start) × (period_days (old_table_words d ++ r) ≡ d.period.n) × (bit_fields# (old_table_words d ++ r) ≡ length d.fields) × (stops# (old_table_words d ++ r) ≡ length d.stops) × (interchanges# (old_table_words d ++ r) ≡ length d.interchanges) × (services# (old_table_words d ++ r) ≡ length d.services) × (services_place (old_table_words d ++ r) ≡ first_service (length d.fields) (length d.stops) (length d.interchanges) (length d.classes)) × (classes# (old_table_words d ++ r) ≡ length d.classes)
unfolding old_table_words
header-words d r = (refl, refl, refl, refl, refl, refl, refl, refl, refl)

-- of the old table, and so of one whose calls point (below)
pub sound-table : (d : Delivery) → Sound d → (rest : List ℕ) → old_is_table (old_table_words d ++ rest) ≡ true
unfolding old_is_table head_sound
sound-table d h rest =
    let q = header-words d rest in
    let u = header_size + length (old_sections d) in
    let p = h.period in
    let at = first_service (length d.fields) (length d.stops) (length d.interchanges) (length d.classes) in
    let l : length (old_table_words d ++ rest) ≡ u + length rest = length-append (old_table_words d) rest ∙ rw (words-length d) in
    let z = sections-length d h.twelves in
    rw (
      words_back d h.twelves rest,
      h.classes,
      used-back d rest,
      q.0,
      q.1,
      q.2,
      q.3,
      q.4,
      q.5,
      q.6,
      q.7,
      q.8,
      l,
      to-services d h.twelves,
      le-leb header_size (u + length rest) (omega arith),
      le-leb header_size u (omega arith),
      le-leb u (u + length rest) (omega arith),
      le-leb 1 d.period.n p.one,
      le-leb d.period.n most_period_days p.most,
      le-leb (d.period.start + d.period.n) (last_day + 1) p.last,
      le-leb 1 (length d.interchanges) h.interchanges,
      eq-eqb at at refl,
      le-leb at u (omega (arith, z)),
    )
    (records-sound h.services)

right-sized : (d : Delivery) (s : Service) → Right d s → Sized s
right-sized d s h = record {
  sound = h.sound;
  two = h.two;
  most-calls = h.most-calls;
  most-categories = h.most-categories;
  most-days = h.most-days;
  most-extras = h.most-extras;
}

some-record : (n : ℕ) → eqb n 0 ≡ false → 1 ≤ n
some-record zero q = absurd (eqb-false 0 0 q refl)
some-record (suc n) q = omega arith

pub clear-sound : (f : Files) → Clear f → Sound (delivered f)
unfolding delivered interchanges_first
clear-sound f h = record {
  twelves = fields-twelve (lines_of f.bitfeld);
  period = period-sound (lines_of f.eckdaten) h.period;
  interchanges = some-record (length (held_in interchange_of (lines_of f.umsteigb))) (given-none _ 2 _ (then-none _ _ h.interchanges).1);
  classes = classes-sound (lines_of f.zugart);
  services = all-to (Right (delivered f)) Sized (right-sized (delivered f)) (delivered f).services (services-right f h);
}

-- document 02, No. 10: with the calls pointing
module _ (d : Delivery) (h : Sound d) (known : All (StopsKnown d.stops) d.services) where
  sized-pointing : {ss : List Service} → All Sized ss → All Sized (map (pointing d.stops) ss)
  unfolding pointing
  sized-pointing nil = nil
  sized-pointing (cons {x = s} h t) =
      let n = length-map s.calls (with_stop (λ (n : ℕ). stop_place n d.stops)) in
      cons (record {
        sound = pointing-sound d.stops s ∙ h.sound;
        two = rw n h.two;
        most-calls = rw n h.most-calls;
        most-categories = h.most-categories;
        most-days = h.most-days;
        most-extras = h.most-extras;
      })
      (sized-pointing t)

  pointed-sound : Sound (pointed d)
  unfolding pointed
  pointed-sound = record { twelves = h.twelves; period = h.period; interchanges = h.interchanges; classes = h.classes; services = sized-pointing h.services }

  module _ (rest : List ℕ) where
    w : List ℕ
    w = old_table_words (pointed d) ++ rest

    pointed-words : table_words d ++ rest ≡ w
    unfolding w
    pointed-words = ap (λ (ws : List ℕ). ws ++ rest) (words-pointed d)

    pointed-holds : old_table_of w ≡ pointed d
    unfolding w
    pointed-holds = words_back (pointed d) pointed-sound.twelves rest

    pointed-table : is_table (table_words d ++ rest) ≡ true
    unfolding w pointed
    pointed-table =
        ap is_table pointed-words ∙ table-by-places w
        ∙ rw (sound-table (pointed d) pointed-sound rest, (header-words (pointed d) rest).4, pointed-holds) (services-below d.stops d.services known)

    table_resolved : table_of (table_words d ++ rest) ≡ d
    table_resolved = ap table_of pointed-words ∙ read-resolved w ∙ ap resolved_all pointed-holds ∙ pointed-back d known

-- each call's stop is in BAHNHOF
pub stops-known : (f : Files) → Clear f → All (StopsKnown (delivered f).stops) (delivered f).services
stops-known f h = all-to (Right (delivered f)) (StopsKnown (delivered f).stops) (λ s r. r.stops) (delivered f).services (services-right f h)

-- The words of a delivery without an offence are a table, and read back as the delivery, whatever words follow.
module _ (f : Files) (e : offence f ≡ none) (rest : List ℕ) where
  pub words-table : is_table (table_words (delivered f) ++ rest) ≡ true
  words-table = pointed-table (delivered f) (clear-sound f (clear f e)) (stops-known f (clear f e)) rest

  pub words-hold : table_of (table_words (delivered f) ++ rest) ≡ delivered f
  words-hold = table_resolved (delivered f) (clear-sound f (clear f e)) (stops-known f (clear f e)) rest

-- ---- acceptance

refused_none : (o : Option Where) (later : Loaded) (u : ℕ) → refused_or o later ≡ Accepted u → (o ≡ none) × (later ≡ Accepted u)
refused_none (some x) later u e = apart (cc)
refused_none none later u e = (refl, e)

short_none : (number lent needed : ℕ) (later : Loaded) (u : ℕ) → short_or number lent needed later ≡ Accepted u → (needed ≤ lent) × (later ≡ Accepted u)
short_none number lent needed later u e = go (ltb lent needed) refl e
  where
    go : (t : Bool) → ltb lent needed ≡ t → cond t (Refused number 0 0 0 needed) later ≡ Accepted u → (needed ≤ lent) × (later ≡ Accepted u)
    go true q e = apart (cc)
    go false q e = (ltb-false lent needed q, e)

-- what an acceptance says, in the order of the refusals
pub record Fits (f : Files) (room helper u : ℕ) : Type 0 where
  pub short-files : length_offence f ≡ none
  pub helper-room : helper_needed f ≤ helper
  pub clean : content_offence f ≡ none
  pub table-room : length (table_words (delivered f)) ≤ room
  pub used : u ≡ length (table_words (delivered f))

pub accepted : (f : Files) (room helper u : ℕ) → loaded f room helper ≡ Accepted u → Fits f room helper u
unfolding loaded
accepted f room helper u e =
    let a = refused_none (length_offence f) _ u e in
    let b = short_none 51 helper (helper_needed f) _ u a.1 in
    let c = refused_none (content_offence f) _ u b.1 in
    let d = short_none 20 room (length (table_words (delivered f))) _ u c.1 in
    let z : length (table_words (delivered f)) ≡ u = let q = d.1 in cc in
    record { short-files = a.0; helper-room = b.0; clean = c.0; table-room = d.0; used = sym z }

module _ (f : Files) (t : List ℕ) (helper u : ℕ) (e : loaded f (length t) helper ≡ Accepted u) where
  pub no-offence : offence f ≡ none
  unfolding offence ◌<|>◌
  no-offence = rw ((accepted f (length t) helper u e).short-files, (accepted f (length t) helper u e).clean) refl

  -- the table holds the delivery's words, and the words lent after them
  pub written_is : written f t helper ≡ table_words (delivered f) ++ drop (length (table_words (delivered f))) t
  unfolding written onto
  written_is = ap (λ (a : Loaded). written_by a (table_words (delivered f)) t) e

  -- the words used are the delivery's, and no more
  pub used-words : u ≡ length (table_words (delivered f))
  used-words = (accepted f (length t) helper u e).used

  -- The table of an accepted delivery is a table, and holds that delivery.
  pub table_is : is_table (written f t helper) ≡ true
  table_is = ap is_table written_is ∙ words-table f no-offence (drop (length (table_words (delivered f))) t)

  pub table-holds : table_of (written f t helper) ≡ delivered f
  table-holds = ap table_of written_is ∙ words-hold f no-offence (drop (length (table_words (delivered f))) t)

-- ---- questions of words that are a table and hold a delivery are questions of that delivery

module _ {X : Type 0} (refusal : Refusal → X) (question : View → X) where
  pub asked-held : (w : List ℕ) (d : Delivery) → is_table w ≡ true → table_of w ≡ d → asked refusal question w ≡ question (view_of d)
  asked-held w d is holds = rw (is, holds)

  -- of an accepted delivery's table
  pub asked-accepted : (f : Files) (t : List ℕ) (helper u : ℕ) → loaded f (length t) helper ≡ Accepted u → asked refusal question (written f t helper) ≡ question (view_of (delivered f))
  asked-accepted f t helper u e = asked-held (written f t helper) (delivered f) (table_is f t helper u e) (table-holds f t helper u e)

-- "and its table unaltered": of any words whose first ones, as many as are used, are those that load left, every question is answered as of these
module _ (f : Files) (t : List ℕ) (helper u : ℕ) (e : loaded f (length t) helper ≡ Accepted u) (w : List ℕ) (same : take u w ≡ take u (written f t helper)) where
  unaltered-is : w ≡ table_words (delivered f) ++ drop u w
  unaltered-is =
      let front : take u (written f t helper) ≡ table_words (delivered f) = ap (take u) (written_is f t helper u e) ∙ take_at (table_words (delivered f)) (drop (length (table_words (delivered f))) t) u (sym (used-words f t helper u e)) in
      sym (take-append-drop u w) ∙ ap (λ (x : List ℕ). x ++ drop u w) (same ∙ front)

  pub unaltered-asked : {X : Type 0} (refusal : Refusal → X) (question : View → X) → asked refusal question w ≡ asked refusal question (written f t helper)
  unaltered-asked refusal question =
      let c = no-offence f t helper u e in
      ap (asked refusal question) unaltered-is
      ∙ asked-held refusal question (table_words (delivered f) ++ drop u w) (delivered f) (words-table f c (drop u w)) (words-hold f c (drop u w))
      ∙ sym (asked-accepted refusal question f t helper u e)

module _ (w : List ℕ) (d : Delivery) (is : is_table w ≡ true) (holds : table_of w ≡ d) where
  pub walk-held : (i r day month year : ℕ) → walk_of w i r day month year ≡ journey (view_of d) i r day month year
  unfolding walk_of
  walk-held i r day month year = asked-held refused (λ (v : View). journey v i r day month year) w d is holds

  pub day-held : (day month year b : ℕ) → day_asked w day month year b ≡ day_in (view_of d) day month year b
  unfolding day_asked
  day-held day month year b = asked-held Err (λ (v : View). day_in v day month year b) w d is holds

  pub interchange-held : (n a b : ℕ) → interchange_asked w n a b ≡ interchange_in (view_of d) n a b
  unfolding interchange_asked
  interchange-held n a b = asked-held Err (λ (v : View). interchange_in v n a b) w d is holds

-- of an accepted delivery's table
module _ (f : Files) (t : List ℕ) (helper u : ℕ) (e : loaded f (length t) helper ≡ Accepted u) where
  pub walk-accepted : (i r day month year : ℕ) → walk_of (written f t helper) i r day month year ≡ journey (view_of (delivered f)) i r day month year
  walk-accepted = walk-held (written f t helper) (delivered f) (table_is f t helper u e) (table-holds f t helper u e)

  pub day-accepted : (day month year b : ℕ) → day_asked (written f t helper) day month year b ≡ day_in (view_of (delivered f)) day month year b
  day-accepted = day-held (written f t helper) (delivered f) (table_is f t helper u e) (table-holds f t helper u e)

  pub interchange-accepted : (n a b : ℕ) → interchange_asked (written f t helper) n a b ≡ interchange_in (view_of (delivered f)) n a b
  interchange-accepted = interchange-held (written f t helper) (delivered f) (table_is f t helper u e) (table-holds f t helper u e)

-- ---- No. 13: "Table and answers stay the same": with helper words enough a load answers by the first offence of all, then 20, as it did without them

same_by : (a b : Option Where) (few : Bool) (short later : Loaded) → few ≡ false → refused_or a (cond few short (refused_or b later)) ≡ refused_or (a <|> b) later
unfolding ◌<|>◌
same_by none b few short later e = rw e refl
same_by (some w) b few short later e = refl

pub answers-same : (f : Files) (room helper : ℕ) → helper_needed f ≤ helper
    → loaded f room helper ≡ refused_or (offence f) (short_or 20 room (length (table_words (delivered f))) (Accepted (length (table_words (delivered f)))))
unfolding loaded offence
answers-same f room helper h = same_by (length_offence f) (content_offence f) (ltb helper (helper_needed f)) _ _ (le-ltb helper (helper_needed f) h)
