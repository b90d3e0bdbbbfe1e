-- Worked boards. Assumes nothing.
use mathlib.Core.Path.{◌≡◌, refl}
use mathlib.Core.List.{List, [], ◌∷◌}
use mathlib.Core.Bool.{true, cond}
use mathlib.Core.Option.{none}
use Prim.Native.Nat.{ℕ}
use lib.Dec.{eqb}
use Rattle.std.specs.Prelude.{Result, Ok, Err}
use Rattle.base.specs.Lists.{gathered, upto, every, some_of, count_if, find}
use Rattle.timetable.specs.Delivery.{Legs, Service}
use Rattle.timetable.specs.Legs.{stretches}
use Rattle.timetable.specs.Offences.{◌<|>◌}
use Rattle.timetable.specs.Runs.{has_run, lateness}
use Rattle.timetable.specs.View.{View, no_interchange}
use Rattle.timetable.specs.Run.{first_refusal, idle_legs, leading_legs, call_refusal, calls_refusal, stretch_course, day_course, course_on}
use Rattle.timetable.specs.declared.Call.{Call}
use Rattle.timetable.specs.declared.Opening.{Opening}
use Rattle.timetable.specs.declared.refusal.Refusal.{Refusal}
use Rattle.timetable.specs.declared.refusal.Refusal.TheVariants.{NoSuchService}
use Rattle.sort.specs.Sorted.{insert, sorted}
use Rattle.sort.specs.Rows.{not_after}
use Rattle.spans.specs.Spans.{runs#}
use Rattle.board.specs.Board.{Departure, runs_from, service_departures, board_of}

-- route R of document 01: 1000011 (dep 00800), 1000022 (00810, 00812), 1000033 (00830, 00835), 1000022 (arr 00855), daily, in one category
abbrev stop_at : ℕ → ℕ → ℕ → ℕ → Call
stop_at n a d f = record { stop = n; arrival = a; departure = d; flags = f; number = 42; high = 0; low = 0 }

abbrev route : List Call
route = stop_at 1000011 0 480 2 ∷ stop_at 1000022 490 492 3 ∷ stop_at 1000033 510 515 3 ∷ stop_at 1000022 535 0 1 ∷ []

abbrev all : Legs
all = record { from = 0; to = 3 }

abbrev service : Opening → Service
service o = record { line = 1; opening = o; calls = route; categories = record { name = 4342100; legs = all } ∷ []; days = record { field = 0; legs = all } ∷ []; extras = [] }

-- two repeats ten minutes apart; and a *T of 20 minutes, every 450 seconds
abbrev repeats : Opening
repeats = record { number = 42; high = 0; low = 0; repeats = 2; offset = 10; kind = 0 }

abbrev frequency : Opening
frequency = record { number = 43; high = 0; low = 0; repeats = 20; offset = 450; kind = 1 }

abbrev shown : ℕ → Result Service Refusal
shown i = cond (eqb i 0) (Ok (service repeats)) (cond (eqb i 1) (Ok (service frequency)) (Err NoSuchService))

abbrev two : View
two = record { period = record { start = 0; n = 7 }; service = shown; known = λ b. true; runs = λ b d. true; shown = λ p. p; times = λ n. no_interchange; stop = λ n. true; named = λ n. none; listed = λ c. true; class = λ c. 0 }

abbrev at : ℕ → ℕ → ℕ → ℕ → Departure
at t i r p = record { time = t; service = i; repeat = r; place = p }

-- from 1000022 between 492 and 512: runs 0, 1 and 2 of the first (492, 502, 512) and 0, 1, 2 of the second (492, 500, 507; lateness is rounded up); the last call of the
-- route is at this stop too, and is not listed
pub six-departures : board_of two 2 1000022 0 492 512 ≡ at 492 0 0 1 ∷ at 492 1 0 1 ∷ at 500 1 1 1 ∷ at 502 0 1 1 ∷ at 507 1 2 1 ∷ at 512 0 2 1 ∷ []
unfolding board_of service_departures runs_from runs# gathered upto sorted insert not_after lateness has_run course_on day_course stretch_course first_refusal idle_legs leading_legs call_refusal calls_refusal stretches every some_of count_if find ◌<|>◌
six-departures = refl

-- both ends count, and a first time after the second is an empty board
pub one-minute : board_of two 2 1000022 0 502 502 ≡ at 502 0 1 1 ∷ []
unfolding board_of service_departures runs_from runs# gathered upto sorted insert not_after lateness has_run course_on day_course stretch_course first_refusal idle_legs leading_legs call_refusal calls_refusal stretches every some_of count_if find ◌<|>◌
one-minute = refl

pub first-after-last : board_of two 2 1000022 0 502 501 ≡ []
unfolding board_of service_departures runs_from runs# gathered upto sorted insert not_after lateness has_run course_on day_course stretch_course first_refusal idle_legs leading_legs call_refusal calls_refusal stretches every some_of count_if find ◌<|>◌
first-after-last = refl

-- "Words needed can pass 2^32": a *T of 9,999 minutes with a density of one second has 599,941 runs
pub most-runs : runs# (record { number = 1; high = 0; low = 0; repeats = 9999; offset = 1; kind = 1 }) ≡ 599941
unfolding runs#
most-runs = refl
