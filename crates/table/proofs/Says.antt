-- What the table's tests say, as facts: `table-says` of the header, `record-says` of a record at the front of the words (its counts, where it ends,
-- its opening line, its calls), `call-sound` of the i-th of its calls, `call-says` of one; the words of a header and of a record's head are there
-- (`header-word`, `table-word`, `head-word`). Assumes nothing.
use mathlib.Core.Path.{◌≡◌, ◌∙◌, sym}
use mathlib.Core.List.{List}
use mathlib.Core.Bool.{true, false, ◌&&◌}
use Prim.Native.Nat.{ℕ, ◌+◌, ◌*◌, ◌≤◌, ◌<◌}
use native.Mathlib.Omega.{arith}
use lib.ListN.{length, drop}
use lib.Seq.{drop-drop}
use lib.Dec.{ltb, leb, eqb}
use borrow.Author.Tests.{ltb-true, leb-true, eqb-true}
use Rattle.base.specs.Lists.{every}
use Rattle.base.proofs.Loops.{and-true}
use Rattle.calendar.specs.Calendar.{last_day}
use Rattle.timetable.specs.Layout.{header_size, service_head, call_size, category_size, day_size, extra_size, first_service, most_period_days, most_calls, most_categories, most_days, latest_time, all_flags}
use Rattle.timetable.specs.Delivery.{CategoryRange, DayRange, ExtraRange}
use Rattle.timetable.specs.Runs.{opening_sound}
use Rattle.timetable.specs.Table.{rows_in, opening_at, call_at, legs_at, category_at, day_at, extra_at, word_count_in, calls#, categories#, days#, extras#, category_place, day_place, extra_place, service_at, used_words, first_day, period_days, bit_fields#, stops#, interchanges#, services#, services_place, classes#, used, table_of, class_sound, call_sound, legs_sound, service_sound, counts_sound, sizes_sound, record_sound, records_sound, head_sound, is_table}
use Rattle.timetable.specs.declared.Call.{Call}
use Rattle.timetable.proofs.Rows.{length-rows, rows_as, every-row}
use Rattle.table.specs.JustTable.{record_end, header_sound}

-- ---- a record at the front of the words

pub record Sizes (w : List ℕ) : Type 0 where
  pub head : service_head ≤ length w
  pub calls-low : 2 ≤ calls# w
  pub calls-high : calls# w ≤ most_calls
  pub days-high : days# w ≤ most_days
  pub said : word_count_in w ≡ record_end w
  pub inside : record_end w ≤ length w

pub sizes-say : (w : List ℕ) → sizes_sound w ≡ true → Sizes w
sizes-say w e =
    let (h, e1) = and-true (leb service_head (length w)) _ e in
    let (counts, e2) = and-true (counts_sound (calls# w) (categories# w) (days# w) (extras# w)) _ e1 in
    let (said, room) = and-true (eqb (word_count_in w) (record_end w)) _ e2 in
    let (low, r1) = and-true (leb 2 (calls# w)) _ counts in
    let (high, r2) = and-true (leb (calls# w) most_calls) _ r1 in
    let r3 = (and-true (leb (categories# w) most_categories) _ r2).1 in
    let v = (and-true (leb (days# w) most_days) _ r3).0 in
    record {
      head = leb-true service_head (length w) h;
      calls-low = leb-true 2 (calls# w) low;
      calls-high = leb-true (calls# w) most_calls high;
      days-high = leb-true (days# w) most_days v;
      said = eqb-true (word_count_in w) (record_end w) said;
      inside = omega (arith, eqb-true (word_count_in w) (record_end w) said, leb-true (word_count_in w) (length w) room);
    }

-- the words of its head are there
pub head-word : (w : List ℕ) → sizes_sound w ≡ true → (i : ℕ) → i < service_head → i < length w
head-word w e i h = omega (arith, (sizes-say w e).head)

-- what it holds, read by its sections, in a table with so many stops
pub service-parts : (stops : ℕ) (w : List ℕ) → service_sound stops (service_at w) ≡ (opening_sound (opening_at w) && (every (call_sound stops) (rows_in call_at call_size (calls# w) (drop service_head w)) && (every (legs_sound false (calls# w)) (rows_in (legs_at 1) category_size (categories# w) (drop (category_place w) w)) && (every (legs_sound false (calls# w)) (rows_in (legs_at 1) day_size (days# w) (drop (day_place w) w)) && every (legs_sound true (calls# w)) (rows_in (legs_at 2) extra_size (extras# w) (drop (extra_place w) w))))))
unfolding service_at
service-parts stops w =
    let c = calls# w in
    rw (length-rows call_at call_size c (drop service_head w), rows_as (legs_sound false c) (λ (r : CategoryRange). r.legs) category_at category_size (categories# w) (drop (category_place w) w), rows_as (legs_sound false c) (λ (r : DayRange). r.legs) day_at day_size (days# w) (drop (day_place w) w), rows_as (legs_sound true c) (λ (r : ExtraRange). r.legs) extra_at extra_size (extras# w) (drop (extra_place w) w))

pub record Bounds (stops : ℕ) (w : List ℕ) : Type 0 where
  pub opening : opening_sound (opening_at w) ≡ true
  pub calls : every (call_sound stops) (rows_in call_at call_size (calls# w) (drop service_head w)) ≡ true

pub service-says : (stops : ℕ) (w : List ℕ) → service_sound stops (service_at w) ≡ true → Bounds stops w
service-says stops w e =
    let (o, e2) = and-true (opening_sound (opening_at w)) _ (sym (service-parts stops w) ∙ e) in
    let cs = (and-true (every (call_sound stops) (rows_in call_at call_size (calls# w) (drop service_head w))) _ e2).0 in
    record { opening = o; calls = cs }

pub record-says : (stops : ℕ) (w : List ℕ) → record_sound stops w ≡ true → Sizes w × Bounds stops w
unfolding record_sound
record-says stops w e =
    let (s, b) = and-true (sizes_sound w) _ e in
    (sizes-say w s, service-says stops w b)

module _ (stops : ℕ) (w : List ℕ) (e : record_sound stops w ≡ true) where
  pub record-sized : sizes_sound w ≡ true
  unfolding record_sound
  record-sized = (and-true (sizes_sound w) _ e).0

  -- the i-th of its calls
  pub call-sound : (i : ℕ) → i < calls# w → call_sound stops (call_at (drop (service_head + call_size * i) w)) ≡ true
  call-sound i h = rw (drop-drop (call_size * i) service_head w) at (every-row (call_sound stops) call_at call_size (calls# w) i (drop service_head w) (record-says stops w e).1.calls h)

-- what a sound call says
pub call-says : (stops : ℕ) (c : Call) → call_sound stops c ≡ true → (c.stop < stops) × (c.arrival ≤ latest_time) × (c.departure ≤ latest_time) × (c.flags ≤ all_flags)
call-says stops c e =
    let (s, e0) = and-true (ltb c.stop stops) _ e in
    let (a, e1) = and-true (leb c.arrival latest_time) _ e0 in
    let (d, f) = and-true (leb c.departure latest_time) _ e1 in
    (ltb-true c.stop stops s, leb-true c.arrival latest_time a, leb-true c.departure latest_time d, leb-true c.flags all_flags f)

-- ---- the header

module _ (lent used first n b s u at k : ℕ) where
  pub record Head : Type 0 where
    pub used_low : header_size ≤ used
    pub used_high : used ≤ lent
    pub days-high : n ≤ most_period_days
    pub interchanges : 1 ≤ u
    pub place : at ≡ first_service b s u k
    pub inside : at ≤ used

  pub head-says : head_sound lent used first n b s u at k ≡ true → Head
  unfolding head_sound
  head-says e =
      let (a, e1) = and-true (leb header_size used) _ e in
      let (b', e2) = and-true (leb used lent) _ e1 in
      let e3 = (and-true (leb 1 n) _ e2).1 in
      let (d, e4) = and-true (leb n most_period_days) _ e3 in
      let e5 = (and-true (leb (first + n) (last_day + 1)) _ e4).1 in
      let (g, e6) = and-true (leb 1 u) _ e5 in
      let (h, i) = and-true (eqb at (first_service b s u k)) _ e6 in
      record {
        used_low = leb-true header_size used a;
        used_high = leb-true used lent b';
        days-high = leb-true n most_period_days d;
        interchanges = leb-true 1 u g;
        place = eqb-true at (first_service b s u k) h;
        inside = leb-true at used i;
      }

abbrev pub HeadOf : List ℕ → Type 0
HeadOf w = Head (length w) (used_words w) (first_day w) (period_days w) (bit_fields# w) (stops# w) (interchanges# w) (services_place w) (classes# w)

pub header-says : (w : List ℕ) → header_sound w ≡ true → HeadOf w
header-says w = head-says (length w) (used_words w) (first_day w) (period_days w) (bit_fields# w) (stops# w) (interchanges# w) (services_place w) (classes# w)

pub header-word : (w : List ℕ) → header_sound w ≡ true → (i : ℕ) → i < header_size → i < length w
header-word w e i h = omega (arith, (header-says w e).used_low, (header-says w e).used_high)

-- its parts
pub record Parts (w : List ℕ) : Type 0 where
  pub header : header_sound w ≡ true
  pub classes : every class_sound (table_of w).classes ≡ true
  pub records : records_sound (stops# w) (services# w) (drop (services_place w) (used w)) ≡ true

pub table-parts : (w : List ℕ) → is_table w ≡ true → Parts w
unfolding is_table
table-parts w e =
    let (h, e1) = and-true (header_sound w) _ (and-true (leb header_size (length w)) _ e).1 in
    let (k, r) = and-true (every class_sound (table_of w).classes) _ e1 in
    record { header = h; classes = k; records = r }

pub table-says : (w : List ℕ) → is_table w ≡ true → HeadOf w
table-says w e = header-says w (table-parts w e).header

pub table-word : (w : List ℕ) → is_table w ≡ true → (i : ℕ) → i < header_size → i < length w
table-word w e = header-word w (table-parts w e).header

pub table-records : (w : List ℕ) → is_table w ≡ true → records_sound (stops# w) (services# w) (drop (services_place w) (used w)) ≡ true
table-records w e = (table-parts w e).records
