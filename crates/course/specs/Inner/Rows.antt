-- What the functions on the calls of a stretch answer. Assumes nothing.
use Rattle.std.specs.Prelude.{ℕ, zero, suc, ◌+◌, ◌-◌, ◌*◌, List, [], ◌∷◌, map, Bool, false, ◌&&◌, ◌||◌, drop, eqb, ltb, leb}
use Rattle.std.specs.Int.Bits.{bit_and}
use Rattle.timetable.specs.Layout.{service_head, call_size}
use Rattle.timetable.specs.Delivery.{Service}
use Rattle.timetable.specs.Ranges.{has_arrival, has_departure}
use Rattle.timetable.specs.Table.{rows_in, call_at, service_at, with_stop, with_stops}
use Rattle.timetable.specs.View.{View}
use Rattle.timetable.specs.Run.{times_needed}
use Rattle.timetable.specs.Questions.{row_of}
use Rattle.timetable.specs.declared.Call.{Call}
use Rattle.course.specs.declared.rows.WalkRow.{WalkRow}

-- the i-th call of a stretch that begins at call a and has n legs: its needed times, its row
unfoldable pub times_fine : ℕ → ℕ → ℕ → Call → Bool
times_fine n i before c = times_needed n i before c

unfoldable pub row_for : View → Service → ℕ → ℕ → ℕ → ℕ → Call → List ℕ
row_for d s a n delay i c = row_of d s a n delay i c

-- a time that is not needed, or is stated and not below the one before
abbrev pub time_fine : Bool → Bool → ℕ → ℕ → Bool
time_fine free stated before time = free || (stated && leb before time)

-- The needed times of the calls of a stretch of n legs, without its first one, c, as words hold them: of those between the times are in order and the flags together, with
-- `both`, say that both are stated; of the last the arrival stands.
unfoldable pub later_stand : ℕ → ℕ → ℕ → List ℕ → Bool
later_stand zero both before w = eqb both 3 && time_fine false (has_arrival (call_at w)) before (call_at w).arrival
later_stand (suc m) both before w =
    (leb before (call_at w).arrival && leb (call_at w).arrival (call_at w).departure)
    && later_stand m (bit_and both (call_at w).flags) (call_at w).departure (drop call_size w)

abbrev pub times_stand : ℕ → Call → List ℕ → Bool
times_stand n c w = ltb 0 n && (has_departure c && later_stand (n - 1) 3 c.departure w)

abbrev pub walk_row_words : WalkRow → List ℕ
walk_row_words r = r.stop ∷ r.arrival ∷ r.departure ∷ r.flags ∷ r.number ∷ r.high ∷ r.low ∷ r.category ∷ r.first ∷ r.second ∷ []

-- m calls from the k-th on, of the words from a service's record on
unfoldable pub calls_from : List ℕ → ℕ → ℕ → List Call
calls_from s k m = rows_in call_at call_size m (drop (service_head + call_size * k) s)

-- a call, these calls and the service as a view shows them: each stop by its number
abbrev pub call_shown : View → Call → Call
call_shown d c = with_stop d.shown c

unfoldable pub calls_shown : View → List ℕ → ℕ → ℕ → List Call
calls_shown d s k m = map (with_stop d.shown) (calls_from s k m)

unfoldable pub shown_by : View → Service → Service
shown_by d s = with_stops d.shown s

abbrev pub service_shown : View → List ℕ → Service
service_shown d s = shown_by d (service_at s)
