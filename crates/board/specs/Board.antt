-- Departure boards, document 02, No. 9: "For a stop, a date and two times in minutes, list every departure of runs that start on that date where boarding is
-- allowed and the time is not below the first nor above the second, each once, by time, then service, repeat and place in the route; a row is these four
-- words, service and place from 0." First what a board is (`IsBoard`; there is only one, `one-board`), then the one that there is (`board_of`, `board-is`;
-- both laws in proofs/Meaning). Assumes nothing.
use Rattle.std.specs.Prelude.{ℕ, ◌+◌, ◌/◌, ◌%◌, ◌≤◌, ◌<◌, ◌≡◌, List, [], ◌∷◌, ◌⊎◌, Bool, true, false, cond, not, ◌&&◌, length, ltb, leb, eqb, Result, Ok, Err, Some, None}
use Rattle.std.proofs.Math.Option.{Option, none, some}
use Rattle.std.proofs.Math.ListN.{get_elem?}
use Rattle.base.specs.Lists.{All, gathered, below}
use Rattle.timetable.specs.Delivery.{Service}
use Rattle.timetable.specs.Runs.{lateness}
use Rattle.timetable.specs.View.{View}
use Rattle.timetable.specs.Run.{Course, Run, a_run, run_of, course_on}
use Rattle.timetable.specs.declared.Call.{Call}
use Rattle.timetable.specs.declared.Opening.{Opening}
use Rattle.timetable.specs.declared.refusal.Refusal.{Refusal}
use Rattle.sort.specs.Rows.{lower, sorted_rows}
use Rattle.sort.specs.declared.BoardRow.{BoardRow}
use Rattle.spans.specs.Spans.{runs#}

-- a departure: time, service, repeat and place in the route
abbrev pub Departure : Type 0
Departure = BoardRow

-- "flags: .. 8 no boarding"
abbrev pub boardable : Call → Bool
boardable c = not (eqb (c.flags / 8 % 2) 1)

-- ---- what a board is

-- "every departure of runs that start on that date": e is one, on day k of the period, from stop n, at minutes t to u. "A run whose walk is refused gives none":
-- it is no run. The last call of a stretch has no departure.
pub record IsDeparture (v : View) (n k t u : ℕ) (e : Departure) : Type 0 where
  pub run : Run
  pub runs : run_of v e.service e.repeat k ≡ a_run run
  pub from : run.start ≤ e.place
  pub before : e.place < run.start + run.legs
  pub call : Call
  pub there : get_elem? run.service.calls e.place ≡ some call
  pub stop : call.stop ≡ n
  pub boards : boardable call ≡ true
  pub time : e.time ≡ call.departure + run.late
  pub first : t ≤ e.time
  pub last : e.time ≤ u

-- x is one of these
unfoldable pub Among : {X : Type 0} → X → List X → Type 0
Among x [] = ⊥
Among x (y ∷ ys) = (x ≡ y) ⊎ Among x ys

-- "by time, then service, repeat and place in the route": e stands before f
unfoldable pub ahead : Departure → Departure → Bool
ahead e f = lower e.time f.time (lower e.service f.service (lower e.repeat f.repeat (ltb e.place f.place)))

-- each stands before all that follow it: in order, and "each once"
pub data Ascending : List Departure → Type 0 where
  none_left : Ascending []
  then : {e : Departure} {es : List Departure} → All (λ (f : Departure). ahead e f ≡ true) es → Ascending es → Ascending (e ∷ es)

-- "list every departure .. each once"
pub record IsBoard (v : View) (n k t u : ℕ) (es : List Departure) : Type 0 where
  pub ordered : Ascending es
  pub only : (e : Departure) → Among e es → IsDeparture v n k t u e
  pub every : (e : Departure) → IsDeparture v n k t u e → Among e es

-- ---- the board: all runs of all services, call by call

-- run r of service i leaves place p, where run 0 leaves at minute d
abbrev pub departure_of : ℕ → Opening → ℕ → ℕ → ℕ → Departure
departure_of i o p d r = record { time = d + lateness o r; service = i; repeat = r; place = p }

-- "the time is not below the first nor above the second"
abbrev pub run_departure : ℕ → ℕ → ℕ → Opening → ℕ → ℕ → ℕ → List Departure
run_departure t u i o p d r = cond (leb t (d + lateness o r) && leb (d + lateness o r) u) (departure_of i o p d r ∷ []) []

-- of every run
unfoldable pub runs_from : ℕ → ℕ → ℕ → Opening → ℕ → ℕ → List Departure
runs_from t u i o p d = gathered (run_departure t u i o p d) (below (runs# o))

-- from a call: at the stop, "where boarding is allowed"
abbrev pub call_departures : ℕ → ℕ → ℕ → ℕ → Opening → ℕ → Option Call → List Departure
call_departures n t u i o p none = []
call_departures n t u i o p (some c) = cond (eqb c.stop n && boardable c) (runs_from t u i o p c.departure) []

-- a course goes on from place p of the route: not from its last call
abbrev pub leaves : Course → ℕ → Bool
leaves (Ok (Some x)) p = leb x.start p && ltb p (x.start + x.legs)
leaves (Ok None) p = false
leaves (Err refusal) p = false

-- from place p of a service
abbrev pub place_departures : View → ℕ → ℕ → ℕ → ℕ → ℕ → Service → ℕ → List Departure
place_departures v n k t u i s p = cond (leaves (course_on v s k) p) (call_departures n t u i s.opening p (get_elem? s.calls p)) []

abbrev pub found_departures : View → ℕ → ℕ → ℕ → ℕ → ℕ → Result Service Refusal → List Departure
found_departures v n k t u i (Err refusal) = []
found_departures v n k t u i (Ok s) = gathered (place_departures v n k t u i s) (below (length s.calls))

-- of the i-th service
unfoldable pub service_departures : View → ℕ → ℕ → ℕ → ℕ → ℕ → List Departure
service_departures v n k t u i = found_departures v n k t u i (v.service i)

-- of so many services, in order
unfoldable pub board_of : View → ℕ → ℕ → ℕ → ℕ → ℕ → List Departure
board_of v services n k t u = sorted_rows (gathered (service_departures v n k t u) (below services))
