-- The questions. Each is a function of a view (View); of any words it is the view of what they hold, 21 where they are no table. Assumes nothing.
use Rattle.std.specs.Prelude.{ℕ, ◌+◌, ◌-◌, ◌*◌, ◌/◌, ◌%◌, List, [], ◌∷◌, ◌++◌, Bool, cond, ◌&&◌, length, ltb, leb, eqb}
use Rattle.std.specs.Prelude.{Option, Some, None, Result, Ok, Err}
use Rattle.calendar.specs.Calendar.{day_of}
use Rattle.timetable.specs.Delivery.{Period, Interchange, Service}
use Rattle.timetable.specs.Layout.{row_size, most_class}
use Rattle.timetable.specs.Load.{onto}
use Rattle.timetable.specs.Table.{table_of, is_table}
use Rattle.timetable.specs.View.{View, view_of}
use Rattle.timetable.specs.Run.{stretch_from, stretch_calls, category_on, RunFound, no_run, at_rest, a_run, run_of}
use Rattle.timetable.specs.declared.Call.{Call}
use Rattle.timetable.specs.declared.refusal.Refusal.{Refusal}
use Rattle.timetable.specs.declared.refusal.Refusal.TheVariants.{NoTable, NoSuchDate, OutsidePeriod, ClassTooHigh, StopUnknown, NoSuchBitField, TooFewWords, CategoryUnlisted}
use Rattle.timetable.specs.declared.WalkRefusal.{WalkRefusal}

-- ---- any words: 21 unless they are a table, then the question of what they hold. "Order: 21, 22 .., 23 .., then the question's own."

abbrev pub asked : {X : Type 0} → (Refusal → X) → (View → X) → List ℕ → X
asked refusal question w = cond (is_table w) (question (view_of (table_of w))) (refusal NoTable)

-- ---- "22 no such date (day, month and year are given), 23 outside the period"

-- a day of the period, counted from 0, or a refusal
abbrev pub dated_by : Period → Option ℕ → Result ℕ Refusal
dated_by p None = Err NoSuchDate
dated_by p (Some k) = cond (leb p.start k && ltb k (p.start + p.n)) (Ok (k - p.start)) (Err OutsidePeriod)

abbrev pub date_of : View → ℕ → ℕ → ℕ → Result ℕ Refusal
date_of v day month year = dated_by v.period (day_of day month year)

-- ---- "Day: 28 no such bit field (0 always runs)."

abbrev pub day_by : View → ℕ → Result ℕ Refusal → Result Bool Refusal
day_by v b (Err refusal) = Err refusal
day_by v b (Ok k) = cond (v.known b) (Ok (v.runs b k)) (Err NoSuchBitField)

unfoldable pub day_in : View → ℕ → ℕ → ℕ → ℕ → Result Bool Refusal
day_in v day month year b = day_by v b (date_of v day month year)

unfoldable pub day_asked : List ℕ → ℕ → ℕ → ℕ → ℕ → Result Bool Refusal
day_asked w day month year b = asked Err (λ (v : View). day_in v day month year b) w

-- ---- "Interchange (no date): 26 class over 13, 27 stop unknown; the stop's record, else the first record"

-- document 02, No. 2: "The first time applies when both classes are 0, 1 or 2." It replaces document 01's "both classes 0 or 1 take the first time,
-- else the second (5.7)".
abbrev pub first_time_class : ℕ → Bool
first_time_class class = leb class 2

abbrev pub minutes_for : Interchange → ℕ → ℕ → ℕ
minutes_for c a b = cond (first_time_class a && first_time_class b) c.first_time c.second_time

unfoldable pub interchange_in : View → ℕ → ℕ → ℕ → Result ℕ Refusal
interchange_in v n a b =
    cond (leb a most_class && leb b most_class)
    (cond (v.stop n) (Ok (minutes_for (v.times n) a b)) (Err StopUnknown))
    (Err ClassTooHigh)

unfoldable pub interchange_asked : List ℕ → ℕ → ℕ → ℕ → Result ℕ Refusal
interchange_asked w n a b = asked Err (λ (v : View). interchange_in v n a b) w

-- ---- document 02, No. 1: "The planner wants to ask the interchange time between two services, not two classes." "The new question takes a stop and two
-- categories." The question between two classes stays.

-- 27, "38 .., in the question, after 27" (either category); a class over 13 is not met in a table (21), so there is no 26
unfoldable pub between_in : View → ℕ → ℕ → ℕ → Result ℕ Refusal
between_in v n a b =
    cond (v.stop n)
    (cond (v.listed a && v.listed b) (Ok (minutes_for (v.times n) (v.class a) (v.class b))) (Err CategoryUnlisted))
    (Err StopUnknown)

unfoldable pub between_asked : List ℕ → ℕ → ℕ → ℕ → Result ℕ Refusal
between_asked w n a b = asked Err (λ (v : View). between_in v n a b) w

-- ---- "Walk of service, repeat, date": the rows along a run

-- "First row: .. flags 1 and 4 cleared. Last: .. flags 2 and 8 cleared"
abbrev pub row_flags : ℕ → ℕ → ℕ → ℕ
row_flags n i f = cond (eqb i 0) 0 (f % 2 + f / 4 % 2 * 4) + cond (eqb i n) 0 (f / 2 % 2 * 2 + f / 8 * 8)

-- "Rows of 7: stop, arrival, departure (each plus repeat times offset), flags, category of the leaving leg, the stop's two interchange times.
-- First row: arrival 0 .. Last: departure 0, .. category 0." Document 02, No. 5: "Rows grow to 10 in the same way": number and the two administration
-- words follow the flags; no row clears them. The i-th row of a stretch that begins at call a and has n legs; `delay` is how late the run
-- is (`lateness`, "repeat times offset"). "The date is that of the start; minutes may pass 1,440."
abbrev pub row_of : View → Service → ℕ → ℕ → ℕ → ℕ → Call → List ℕ
row_of v s a n delay i c =
    c.stop
    ∷ cond (eqb i 0) 0 (c.arrival + delay)
    ∷ cond (eqb i n) 0 (c.departure + delay)
    ∷ row_flags n i c.flags
    ∷ c.number
    ∷ c.high
    ∷ c.low
    ∷ cond (eqb i n) 0 (category_on s (a + i))
    ∷ (v.times c.stop).first_time
    ∷ (v.times c.stop).second_time
    ∷ []

unfoldable pub rows_of : View → Service → ℕ → ℕ → ℕ → ℕ → List Call → List ℕ
rows_of v s a n delay i [] = []
rows_of v s a n delay i (c ∷ cs) = row_of v s a n delay i c ++ rows_of v s a n delay (i + 1) cs

-- what a walk gives, before the room is looked at
pub data Journey : Type 0 where
  refused : Refusal → Journey
  idle : Journey
  rows : List ℕ → Journey

abbrev pub rows_along : View → RunFound → Journey
rows_along v (no_run refusal) = refused refusal
rows_along v at_rest = idle
rows_along v (a_run x) = rows (rows_of v x.service x.start x.legs x.late 0 (stretch_calls x.service (stretch_from x.start x.legs)))

-- the run of a date: 22, 23, then the run's own
abbrev pub dated_run : View → ℕ → ℕ → Result ℕ Refusal → RunFound
dated_run v i r (Err refusal) = no_run refusal
dated_run v i r (Ok k) = run_of v i r k

unfoldable pub journey : View → ℕ → ℕ → ℕ → ℕ → ℕ → Journey
journey v i r day month year = rows_along v (dated_run v i r (date_of v day month year))

-- the walk of any words
unfoldable pub walk_of : List ℕ → ℕ → ℕ → ℕ → ℕ → ℕ → Journey
walk_of w i r day month year = asked refused (λ (v : View). journey v i r day month year) w

-- "Then 29 row slice too short." "Refusals below return only their number, 29 also the words needed"; "A walk that lists rows returns how many"
abbrev pub Walked : Type 0
Walked = Result (Option ℕ) WalkRefusal

abbrev pub walk_refusal : Refusal → ℕ → WalkRefusal
walk_refusal refusal needed = record { refusal = refusal; needed = needed }

abbrev pub walked_by : Journey → ℕ → Walked
walked_by (refused refusal) room = Err (walk_refusal refusal 0)
walked_by idle room = Ok None
walked_by (rows ws) room = cond (ltb room (length ws)) (Err (walk_refusal TooFewWords (length ws))) (Ok (Some (length ws / row_size)))

abbrev pub walked : List ℕ → ℕ → ℕ → ℕ → ℕ → ℕ → ℕ → Walked
walked w i r day month year room = walked_by (walk_of w i r day month year) room

-- the rows afterwards: refusals "leave the rows as lent"; "later words stay"
abbrev pub rows_by : Journey → List ℕ → List ℕ
rows_by (refused refusal) t = t
rows_by idle t = t
rows_by (rows ws) t = cond (ltb (length t) (length ws)) t (onto ws t)

abbrev pub walk_rows : List ℕ → ℕ → ℕ → ℕ → ℕ → ℕ → List ℕ → List ℕ
walk_rows w i r day month year t = rows_by (walk_of w i r day month year) t
