-- Whether the day's course of a service goes on from a place of its route, by its record alone. Assumes nothing.
use Rattle.std.specs.Prelude.{ℕ, ◌+◌, ◌-◌, ◌<◌, ◌≡◌, List, [], Bool, true, false, cond, ◌&&◌}
use Rattle.std.proofs.Math.Option.{Option, none, some}
use Rattle.timetable.specs.declared.refusal.Refusal.{Refusal}
use Rattle.timetable.specs.Runs.{opening_sound}
use Rattle.timetable.specs.Table.{opening_at, calls#, service_at, sizes_sound, record_sound}
use Rattle.timetable.specs.View.{View}
use Rattle.timetable.specs.Run.{calls_refusal, course_on}
use Rattle.course.specs.Inner.Rows.{calls_from}
use Rattle.course.specs.Inner.Course.{stretches_course}
use Rattle.board.specs.Board.{Departure, leaves}
use Rattle.board_runs.specs.Batch.{days_follow, followed, left_on, call_stands, trusted, call_gives}

-- no call is refused
abbrev pub is_none : Option Refusal → Bool
is_none none = true
is_none (some refusal) = false

-- of the stretch from call a on with n legs
abbrev pub unrefused : List ℕ → ℕ → ℕ → Bool
unrefused s a n = is_none (calls_refusal (service_at s) a n 0 0 (calls_from s a (n + 1)))

-- the record is sound, and the day's course goes on from place p; so it is where the day's first stretch begins at a and ends at b, and another begins at c
abbrev pub goes_from : View → ℕ → List ℕ → ℕ → ℕ → Bool
goes_from v stops s k p = record_sound stops s && leaves (course_on v (service_at s) k) p

abbrev pub goes_along : ℕ → List ℕ → ℕ → ℕ → ℕ → ℕ → Bool
goes_along stops s a b c p = record_sound stops s && leaves (stretches_course (service_at s) (calls# s - 1) a b c) p

-- the same with the mark of a steady table: of a record that is followed, what its ranges say
abbrev pub goes_in : Bool → View → ℕ → List ℕ → ℕ → ℕ → Bool
goes_in m v stops s k p = cond (m && followed s) (trusted v stops s k p) (goes_from v stops s k p)

abbrev pub along_in : Bool → ℕ → List ℕ → ℕ → ℕ → ℕ → ℕ → Bool
along_in m stops s a b c p = cond (m && followed s) (left_on (calls# s - 1) a b c p && call_stands stops s p) (goes_along stops s a b c p)

-- the departures from place p of the service whose record stands at the front of s, in a table with so many stops
abbrev pub record_gives : Bool → View → ℕ → ℕ → ℕ → ℕ → ℕ → ℕ → List ℕ → ℕ → List Departure
record_gives m v stops n k t u i s p = cond (goes_in m v stops s k p) (call_gives v n t u i s p) []

-- ---- for contracts

-- its sizes and its opening line are sound
pub record Opened (s : List ℕ) : Type 0 where
  pub sized : sizes_sound s ≡ true
  pub opening : opening_sound (opening_at s) ≡ true

-- and its operating-day ranges follow each other
pub record DaysInTurn (s : List ℕ) : Type 0 where
  pub opened : Opened s
  pub follow : days_follow s ≡ true

-- and the call at place p is sound, where there is one
pub record CallReady (stops : ℕ) (s : List ℕ) (p : ℕ) : Type 0 where
  pub opened : Opened s
  pub call : p < calls# s → call_stands stops s p ≡ true
