-- What a place of the i-th service gives, by its record: with the mark of a steady table and without. Assumes nothing.
use mathlib.Core.Path.{◌≡◌, refl, ap, ◌∙◌}
use mathlib.Core.List.{List, []}
use mathlib.Core.Bool.{Bool, true, false, cond, ◌&&◌}
use Prim.Native.Nat.{ℕ, ◌+◌, ◌-◌, ◌*◌, ◌≤◌, ◌<◌}
use native.Mathlib.Omega.{arith}
use lib.ListN.{length, drop}
use borrow.Author.Tests.{lt-ltb, le-ltb}
use Rattle.std.specs.Prelude.{Ok, Err}
use Rattle.base.proofs.Loops.{and-true}
use Rattle.timetable.specs.Layout.{service_head, call_size, day_size}
use Rattle.timetable.specs.Runs.{opening_sound}
use Rattle.timetable.specs.Table.{stops#, services#, calls#, days#, day_place, rows_in, day_at, opening_at, service_at, with_stops, sizes_sound, record_sound}
use Rattle.timetable.specs.View.{View}
use Rattle.timetable.specs.Run.{Course, course_on}
use Rattle.timetable.specs.declared.refusal.Refusal.TheVariants.{NotItsIndex}
use Rattle.table.proofs.Says.{sizes-say, record-says, record-sized, call-sound}
use Rattle.index.specs.Index.{record_place_in, record_from, record_in, service_from, view_in}
use Rattle.course.specs.Inner.Turn.{no_legs, ranges_say}
use Rattle.course.specs.Inner.Rows.{shown_by}
use Rattle.course.proofs.Laws.{on-shown}
use Rattle.board.specs.Board.{Departure, leaves, place_departures}
use Rattle.board_runs.specs.Batch.{found_at, departures_at, days_follow, ranges_follow, followed, call_stands, says_left, trusted, call_gives, record_of, departures_in}
use Rattle.board_runs.specs.Inner.Goes.{goes_from, goes_in, record_gives, Opened, DaysInTurn, CallReady}

and_none : (b : Bool) → (b && false) ≡ false
and_none true = refl
and_none false = refl

-- ---- a record

module _ (s : List ℕ) (e : followed s ≡ true) where
  parts : (sizes_sound s ≡ true) × (opening_sound (opening_at s) ≡ true) × (days_follow s ≡ true) × (ranges_follow s ≡ true)
  unfolding followed
  parts =
      let (z, e1) = and-true (sizes_sound s) _ e in
      let (o, e2) = and-true (opening_sound (opening_at s)) _ e1 in
      let (d, r) = and-true (days_follow s) _ e2 in
      (z, o, d, r)

  pub followed-days : DaysInTurn s
  followed-days = record { opened = record { sized = parts.0; opening = parts.1 }; follow = parts.2 }

  pub followed-ranges : ranges_follow s ≡ true
  followed-ranges = parts.3

pub sound-opened : (stops : ℕ) (s : List ℕ) → record_sound stops s ≡ true → Opened s
sound-opened stops s e = record { sized = record-sized stops s e; opening = (record-says stops s e).1.opening }

-- where the course goes on the record is opened, and its call sound
pub goes-ready : (m : Bool) (v : View) (stops : ℕ) (s : List ℕ) (k p : ℕ) → goes_in m v stops s k p ≡ true → CallReady stops s p
unfolding trusted
goes-ready m v stops s k p = go (m && followed s) refl
  where
    go : (b : Bool) → (m && followed s) ≡ b → cond b (trusted v stops s k p) (goes_from v stops s k p) ≡ true → CallReady stops s p
    go true q e = record { opened = (followed-days s (and-true m (followed s) q).1).opened; call = λ h. (and-true (says_left (ranges_say v k no_legs (rows_in day_at day_size (days# s) (drop (day_place s) s))) (calls# s - 1) p) (call_stands stops s p) e).1 }
    go false q e =
        let z : record_sound stops s ≡ true = (and-true (record_sound stops s) (leaves (course_on v (service_at s) k) p) e).0 in
        record { opened = sound-opened stops s z; call = λ h. call-sound stops s z p h }

-- no words are no record
pub goes_none : (m : Bool) (v : View) (stops k p : ℕ) → goes_in m v stops [] k p ≡ false
unfolding followed record_sound
goes_none m v stops k p = rw (and_none m)

pub call-room : (s : List ℕ) (p : ℕ) → Opened s → p < calls# s → service_head + call_size * p + call_size ≤ length s
call-room s p o h = omega (arith, (sizes-say s o.sized).inside, step p (calls# s) h)
  where
    step : (p c : ℕ) → p < c → 7 * p + 7 ≤ 7 * c
    step p c h = omega arith

-- ---- the i-th service

module _ (v : View) (s : List ℕ) (n k t u i p : ℕ) where
  shown-course : course_on v (with_stops v.shown (service_at s)) k ≡ course_on v (service_at s) k
  unfolding shown_by
  shown-course = on-shown v (service_at s) k

  placed : place_departures v n k t u i (with_stops v.shown (service_at s)) p ≡ cond (leaves (course_on v (service_at s) k) p) (call_gives v n t u i s p) []
  unfolding service_at
  placed = ap (λ (c : Course). cond (leaves c p) (call_gives v n t u i s p) []) shown-course

  both : (stops : ℕ) → cond (record_sound stops s) (place_departures v n k t u i (with_stops v.shown (service_at s)) p) [] ≡ cond (goes_from v stops s k p) (call_gives v n t u i s p) []
  both stops = ap (λ (es : List Departure). cond (record_sound stops s) es []) placed ∙ go (record_sound stops s) (leaves (course_on v (service_at s) k) p)
    where
      go : (a b : Bool) → cond a (cond b (call_gives v n t u i s p) []) [] ≡ cond (a && b) (call_gives v n t u i s p) []
      go true b = refl
      go false b = refl

module _ (w x : List ℕ) (n k t u i p : ℕ) where
  -- without the mark it is what the words show
  pub unmarked : departures_in false w x n k t u i p ≡ departures_at (view_in w x) n k t u i p
  unfolding departures_in
  unmarked = refl

  pub none-past : (m : Bool) → services# w ≤ i → departures_in m w x n k t u i p ≡ []
  unfolding departures_in departures_at view_in record_in
  none-past m h = rw (le-ltb i (services# w) h, and_none m)

  module _ (l : i < services# w) where
    pub shown-by : departures_at (view_in w x) n k t u i p ≡ cond (goes_from (view_in w x) (stops# w) (record_of w x i) k p) (call_gives (view_in w x) n t u i (record_of w x i) p) []
    unfolding departures_at view_in record_in record_from
    shown-by = rw (lt-ltb i (services# w) l) (by-sound (record_sound (stops# w) (record_of w x i)) ∙ both (view_in w x) (record_of w x i) n k t u i p (stops# w))
      where
        by-sound : (y : Bool) → found_at (view_in w x) n k t u i p (service_from w (cond y (Ok (record_place_in w x i)) (Err NotItsIndex))) ≡ cond y (place_departures (view_in w x) n k t u i (with_stops (view_in w x).shown (service_at (record_of w x i))) p) []
        by-sound true = refl
        by-sound false = refl

    pub given_by : (m : Bool) → departures_in m w x n k t u i p ≡ record_gives m (view_in w x) (stops# w) n k t u i (record_of w x i) p
    unfolding departures_in
    given_by m = rw (lt-ltb i (services# w) l, shown-by) (go (m && followed (record_of w x i)))
      where
        go : (b : Bool) → cond b (cond (trusted (view_in w x) (stops# w) (record_of w x i) k p) (call_gives (view_in w x) n t u i (record_of w x i) p) []) (cond (goes_from (view_in w x) (stops# w) (record_of w x i) k p) (call_gives (view_in w x) n t u i (record_of w x i) p) [])
            ≡ cond (cond b (trusted (view_in w x) (stops# w) (record_of w x i) k p) (goes_from (view_in w x) (stops# w) (record_of w x i) k p)) (call_gives (view_in w x) n t u i (record_of w x i) p) []
        go true = refl
        go false = refl
