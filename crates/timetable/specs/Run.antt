-- A run: what a service does on a day, by a view. One definition answers for a service, a repeat and a day: 24, 25, 34, 31, "not running", 35, 36, 33, or the
-- run. A walk is the rows along it (Questions). Assumes nothing.
use Rattle.std.specs.Prelude.{ℕ, ◌+◌, ◌-◌, List, [], ◌∷◌, Bool, false, cond, not, ◌&&◌, ◌||◌, take, drop, ltb, leb, eqb}
use Rattle.std.specs.Prelude.{Option as Perhaps, Some, None, Result, Ok, Err}
use Rattle.std.proofs.Math.Option.{Option, none, some}
use Rattle.base.specs.Lists.{every, find, below}
use Rattle.timetable.specs.Delivery.{CategoryRange, DayRange, Service}
use Rattle.timetable.specs.Offences.{◌<|>◌}
use Rattle.timetable.specs.Ranges.{has_arrival, has_departure}
use Rattle.timetable.specs.Legs.{covers, covering, stretches, leg_count, operated_legs_by}
use Rattle.timetable.specs.Runs.{has_run, lateness}
use Rattle.timetable.specs.View.{View}
use Rattle.timetable.specs.declared.Call.{Call}
use Rattle.timetable.specs.declared.Along.{Along}
use Rattle.timetable.specs.declared.refusal.Refusal.{Refusal}
use Rattle.timetable.specs.declared.refusal.Refusal.TheVariants.{LegFieldUnknown, LegCategoryNotOnce, LegDaysNotOnce, TwoStretches, TimeNeeded, NoSuchRun}

-- a refusal, given exactly when the test holds
abbrev pub refuse : Bool → Refusal → Option Refusal
refuse t refusal = cond t (some refusal) none

-- ---- legs: "Each leg in order: 34 not exactly one *A VE, 31 its bit field unknown." (After 34 one range covers the leg, and "its" is that range's.)

abbrev pub leg_refusal : View → Service → ℕ → Option Refusal
leg_refusal v s k =
    refuse (not (eqb (covering (λ (r : DayRange). r.legs) s.days k) 1)) LegDaysNotOnce
    <|> refuse (not (every (λ (r : DayRange). not (covers k r.legs) || v.known r.field) s.days)) LegFieldUnknown

-- the first refusal along some legs
unfoldable pub first_refusal : (ℕ → Option Refusal) → List ℕ → Option Refusal
first_refusal f [] = none
first_refusal f (k ∷ ks) = f k <|> first_refusal f ks

-- ---- the stretch of a day: the legs before it that are not operated, and its legs

unfoldable pub idle_legs : List Bool → ℕ
idle_legs [] = 0
idle_legs (b ∷ bs) = cond b 0 (1 + idle_legs bs)

unfoldable pub leading_legs : List Bool → ℕ
leading_legs [] = 0
leading_legs (b ∷ bs) = cond b (1 + leading_legs bs) 0

-- its first call and how many legs
pub record Stretch : Type 0 where
  pub start : ℕ
  pub legs : ℕ

abbrev pub stretch_of : List Bool → Stretch
stretch_of bs = record { start = idle_legs bs; legs = leading_legs (drop (idle_legs bs) bs) }

abbrev pub stretch_from : ℕ → ℕ → Stretch
stretch_from a n = record { start = a; legs = n }

abbrev pub stretch_calls : Service → Stretch → List Call
stretch_calls s t = take (t.legs + 1) (drop t.start s.calls)

-- ---- calls: "Each call of the stretch: 32 stop unknown, 36 .., 33 leaving leg without exactly one *G." Document 02, No. 10: "show that 32 can no longer occur, and
-- retire it" (a table's calls point at its own stops: 21).

-- "36 a time needed (first departure, last arrival, both between) missing or below the needed one before": the i-th call of n legs
abbrev pub times_needed : ℕ → ℕ → ℕ → Call → Bool
times_needed n i before c =
    (eqb i 0 || (has_arrival c && leb before c.arrival))
    && (eqb i n || (has_departure c && leb (cond (eqb i 0) before c.arrival) c.departure))

-- the needed time that the next call must not fall below
abbrev pub needed_last : ℕ → ℕ → Call → ℕ
needed_last n i c = cond (eqb i n) c.arrival c.departure

-- The stretch begins at call a and has n legs; i counts its calls from 0, and `before` is the needed time before.
unfoldable pub call_refusal : Service → ℕ → ℕ → ℕ → ℕ → Call → Option Refusal
call_refusal s a n i before c =
    refuse (not (times_needed n i before c)) TimeNeeded
    <|> refuse (ltb i n && not (eqb (covering (λ (r : CategoryRange). r.legs) s.categories (a + i)) 1)) LegCategoryNotOnce

unfoldable pub calls_refusal : Service → ℕ → ℕ → ℕ → ℕ → List Call → Option Refusal
calls_refusal s a n i before [] = none
calls_refusal s a n i before (c ∷ cs) = call_refusal s a n i before c <|> calls_refusal s a n (i + 1) (needed_last n i c) cs

-- the category of a leg: that of the first *G that covers it
abbrev pub name_by : Option CategoryRange → ℕ
name_by none = 0
name_by (some r) = r.name

abbrev pub category_on : Service → ℕ → ℕ
category_on s k = name_by (find (λ (r : CategoryRange). covers k r.legs) s.categories)

-- ---- the course of a service: the stretch that it runs along, none where it is "not running", or a refusal

abbrev pub Course : Type 0
Course = Result (Perhaps Along) Refusal

abbrev pub runs_along : ℕ → ℕ → Course
runs_along a n = Ok (Some (record { start = a; legs = n }))

abbrev pub not_running : Course
not_running = Ok None

abbrev pub course_by : Option Refusal → Course → Course
course_by none c = c
course_by (some refusal) c = Err refusal

-- along the stretch from call a on with n legs: 36, 33
unfoldable pub stretch_course : Service → ℕ → ℕ → Course
stretch_course s a n = course_by (calls_refusal s a n 0 0 (stretch_calls s (stretch_from a n))) (runs_along a n)

-- where these legs are operated: "No leg operated: "not running", no rows. 35 two stretches."
abbrev pub legs_course : Service → List Bool → Course
legs_course s bs =
    cond (eqb (stretches false bs) 0) not_running
    (cond (leb 2 (stretches false bs)) (Err TwoStretches) (stretch_course s (stretch_of bs).start (stretch_of bs).legs))

-- by the legs that are operated on day k of the period
unfoldable pub day_course : View → Service → ℕ → Course
day_course v s k = legs_course s (operated_legs_by v.runs s k)

-- on day k, the same for all its runs: 34 and 31 leg by leg, then by the legs that are operated
unfoldable pub course_on : View → Service → ℕ → Course
course_on v s k = course_by (first_refusal (leg_refusal v s) (below (leg_count s))) (day_course v s k)

-- of repeat r: "25 repeat number over repeats (0 is the run itself)"; document 02, No. 8: "25 follows the rule above": a run that the service has not
unfoldable pub service_course : View → Service → ℕ → ℕ → Course
service_course v s r k = cond (not (has_run s.opening r)) (Err NoSuchRun) (course_on v s k)

-- ---- the run

-- its service, how late it is ("plus repeat times offset", No. 8: `lateness`), and its stretch: the first call and how many legs
pub record Run : Type 0 where
  pub service : Service
  pub late : ℕ
  pub start : ℕ
  pub legs : ℕ

pub data RunFound : Type 0 where
  no_run : Refusal → RunFound
  at_rest : RunFound
  a_run : Run → RunFound

abbrev pub run_along : Service → ℕ → Course → RunFound
run_along s late (Err refusal) = no_run refusal
run_along s late (Ok None) = at_rest
run_along s late (Ok (Some x)) = a_run (record { service = s; late = late; start = x.start; legs = x.legs })

abbrev pub run_by : View → Result Service Refusal → ℕ → ℕ → RunFound
run_by v (Err refusal) r k = no_run refusal
run_by v (Ok s) r k = run_along s (lateness s.opening r) (service_course v s r k)

-- of the i-th service, repeat r, on day k of the period
unfoldable pub run_of : View → ℕ → ℕ → ℕ → RunFound
run_of v i r k = run_by v (v.service i) r k
