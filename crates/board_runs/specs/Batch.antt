-- The departures from one call of one service, found without trying each run. Assumes nothing.
use Rattle.std.specs.Prelude.{ℕ, ◌+◌, ◌-◌, ◌*◌, ◌≤◌, ◌<◌, ◌≡◌, List, [], map, Bool, true, false, cond, ◌&&◌, length, get_or, drop, ltb, leb, eqb, Result, Ok, Err}
use Rattle.std.proofs.Math.ListN.{get_elem?}
use Rattle.base.specs.Lists.{upto}
use Rattle.timetable.specs.Delivery.{Service}
use Rattle.timetable.specs.Layout.{service_head, call_size, category_size, day_size, latest_time}
use Rattle.timetable.specs.Runs.{opening_sound}
use Rattle.timetable.specs.Table.{stops#, services#, calls#, categories#, days#, category_place, day_place, rows_in, day_at, call_at, opening_at, service_at, with_stops, call_sound, sizes_sound}
use Rattle.timetable.specs.View.{View}
use Rattle.timetable.specs.declared.refusal.Refusal.{Refusal}
use Rattle.table.specs.JustTable.{extras_sound}
use Rattle.cover.specs.Inner.Cover.{legs_in, in_turn}
use Rattle.index.specs.Index.{services_from, index_size, record_place_in, view_in}
use Rattle.index.specs.Inner.Ready.{Ready}
use Rattle.course.specs.declared.legs.DayLegs.{DayLegs}
use Rattle.course.specs.Inner.Turn.{no_legs, ranges_say}
use Rattle.spans.specs.Spans.{runs#}
use Rattle.board.specs.Board.{Departure, departure_of, runs_from, call_departures, place_departures}
use Rattle.board_runs.specs.declared.Batch.{Batch}

-- the departures from place p of the i-th service of a view
abbrev pub found_at : View → ℕ → ℕ → ℕ → ℕ → ℕ → ℕ → Result Service Refusal → List Departure
found_at v n k t u i p (Err refusal) = []
found_at v n k t u i p (Ok s) = place_departures v n k t u i s p

unfoldable pub departures_at : View → ℕ → ℕ → ℕ → ℕ → ℕ → ℕ → List Departure
departures_at v n k t u i p = found_at v n k t u i p (v.service i)

-- ---- where the words of the calls mark the table as steady (table/specs/Steady), the other calls of a record are not looked at

-- the operating-day ranges of the record at the front of s follow each other
abbrev pub days_follow : List ℕ → Bool
days_follow s = in_turn 0 (calls# s - 1) (legs_in day_size (days# s) (drop (day_place s) s))

-- so do its *G, and its other *A are sound
abbrev pub ranges_follow : List ℕ → Bool
ranges_follow s = in_turn 0 (calls# s - 1) (legs_in category_size (categories# s) (drop (category_place s) s)) && extras_sound s

-- its sizes and its opening line are sound, and all its ranges follow
unfoldable pub followed : List ℕ → Bool
followed s = sizes_sound s && (opening_sound (opening_at s) && (days_follow s && ranges_follow s))

-- of so many legs a day's stretch begins at a and ends at b, another begins at c: place p is left, on the only stretch
abbrev pub left_on : ℕ → ℕ → ℕ → ℕ → ℕ → Bool
left_on legs a b c p = leb a p && (ltb p b && leb legs c)

-- the call at place p of a record is sound
abbrev pub call_stands : ℕ → List ℕ → ℕ → Bool
call_stands stops s p = call_sound stops (call_at (drop (service_head + call_size * p) s))

-- what the ranges alone say of a day: they are known, and place p is left
abbrev pub says_left : Result DayLegs Refusal → ℕ → ℕ → Bool
says_left (Ok l) legs p = left_on legs l.start l.end l.again p
says_left (Err refusal) legs p = false

-- so they say of day k, and the call at place p is sound
unfoldable pub trusted : View → ℕ → List ℕ → ℕ → ℕ → Bool
trusted v stops s k p = says_left (ranges_say v k no_legs (rows_in day_at day_size (days# s) (drop (day_place s) s))) (calls# s - 1) p && call_stands stops s p

-- what the call at place p of a record gives, whatever the course
abbrev pub call_gives : View → ℕ → ℕ → ℕ → ℕ → List ℕ → ℕ → List Departure
call_gives v n t u i s p = call_departures n t u i (opening_at s) p (get_elem? (with_stops v.shown (service_at s)).calls p)

-- the words from the place on that an index has for the i-th service
abbrev pub record_of : List ℕ → List ℕ → ℕ → List ℕ
record_of w x i = drop (record_place_in w x i) w

-- the departures from place p of the i-th service: with the mark, of a record that is followed, by what its ranges say
unfoldable pub departures_in : Bool → List ℕ → List ℕ → ℕ → ℕ → ℕ → ℕ → ℕ → ℕ → List Departure
departures_in m w x n k t u i p =
    cond (m && (ltb i (services# w) && followed (record_of w x i)))
    (cond (trusted (view_in w x) (stops# w) (record_of w x i) k p) (call_gives (view_in w x) n t u i (record_of w x i) p) [])
    (departures_at (view_in w x) n k t u i p)

-- ---- for contracts: runs one after the other, from one call

abbrev pub batch_rows : Batch → List Departure
batch_rows b = map (departure_of b.service b.opening b.place b.departure) (upto (b.high - b.low) b.low)

pub record Batched (b : Batch) (es : List Departure) : Type 0 where
  pub rows : batch_rows b ≡ es
  pub sound : opening_sound b.opening ≡ true
  pub there : b.high ≤ runs# b.opening
  pub early : b.departure ≤ latest_time

-- ---- a first look: what the opening line and the call alone say

-- the places of the services begin at a place of an index of look-ups
pub record Shelved (w x : List ℕ) (places : ℕ) : Type 0 where
  pub ready : Ready w x
  pub long : length x ≡ index_size w
  pub from : places ≡ services_from w

-- a service with so many repeats leaves at minute d, and no run of it between t and u
abbrev pub outside : ℕ → ℕ → ℕ → ℕ → Bool
outside d repeats t u = cond (ltb u d) true (cond (leb t d) false (eqb repeats 0))

-- where the answer is yes, there is no departure from place p of the i-th service, whatever mark, stop and day; else the words of its call are there
pub record Quiet (w x : List ℕ) (places t u i p : ℕ) (r : Bool) : Type 0 where
  pub none : r ≡ true → (m : Bool) (n k : ℕ) → departures_in m w x n k t u i p ≡ []
  pub there : r ≡ false → places + i < length x
  pub words : r ≡ false → get_or x (places + i) 0 + service_head + call_size * p + call_size ≤ length w

-- at most r departures, whatever mark, stop and day
pub record AtMost (w x : List ℕ) (t u i p r : ℕ) : Type 0 where
  pub few : (m : Bool) (n k : ℕ) → length (departures_in m w x n k t u i p) ≤ r

-- at most r runs leave from place p of the record at the front of s, where a table has its opening line
pub record MostFrom (s : List ℕ) (t u p r : ℕ) : Type 0 where
  pub few : opening_sound (opening_at s) ≡ true → (i : ℕ) → length (runs_from t u i (opening_at s) p (call_at (drop (service_head + call_size * p) s)).departure) ≤ r
