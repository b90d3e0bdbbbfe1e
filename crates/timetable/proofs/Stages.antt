-- A walk stage by stage, each stage with the rows that come of it: for proofs that go down its refusals one after another. Nobody has to believe these
-- definitions: `journey-stages` says that they are the walk's. Assumes nothing.
use mathlib.Core.Path.{◌≡◌, refl, ap, ◌∙◌}
use mathlib.Core.List.{List}
use mathlib.Core.Bool.{Bool, true, false, cond, not}
use mathlib.Core.Option.{Option, none, some}
use Prim.Native.Nat.{ℕ}
use lib.Dec.{leb, eqb}
use Rattle.std.specs.Prelude.{Result, Ok, Err}
use Rattle.base.specs.Lists.{below}
use Rattle.timetable.specs.Delivery.{Service}
use Rattle.timetable.specs.Legs.{stretches, leg_count, operated_legs_by}
use Rattle.timetable.specs.Runs.{has_run, lateness}
use Rattle.timetable.specs.View.{View}
use Rattle.timetable.specs.Run.{Course, runs_along, not_running, leg_refusal, first_refusal, Stretch, stretch_of, stretch_calls, calls_refusal, course_by, stretch_course, legs_course, day_course, course_on, service_course, run_along, run_by, run_of}
use Rattle.timetable.specs.Questions.{date_of, rows_of, Journey, refused, idle, rows, rows_along, dated_run, journey}
use Rattle.timetable.specs.declared.refusal.Refusal.{Refusal}
use Rattle.timetable.specs.declared.refusal.Refusal.TheVariants.{NoSuchRun, TwoStretches}

abbrev pub journey_by : Option Refusal → Journey → Journey
journey_by (some refusal) j = refused refusal
journey_by none j = j

abbrev pub stretch_journey : View → Service → ℕ → Stretch → Journey
stretch_journey v s delay t =
    journey_by (calls_refusal s t.start t.legs 0 0 (stretch_calls s t)) (rows (rows_of v s t.start t.legs delay 0 (stretch_calls s t)))

abbrev pub journey_on_day : View → Service → ℕ → List Bool → Journey
journey_on_day v s delay bs =
    cond (eqb (stretches false bs) 0) idle (cond (leb 2 (stretches false bs)) (refused TwoStretches) (stretch_journey v s delay (stretch_of bs)))

abbrev pub service_journey : View → Service → ℕ → ℕ → Journey
service_journey v s r k =
    cond (not (has_run s.opening r)) (refused NoSuchRun)
    (journey_by (first_refusal (leg_refusal v s) (below (leg_count s))) (journey_on_day v s (lateness s.opening r) (operated_legs_by v.runs s k)))

abbrev pub indexed : View → Result Service Refusal → ℕ → ℕ → Journey
indexed v (Err refusal) r k = refused refusal
indexed v (Ok s) r k = service_journey v s r k

abbrev pub dated_journey : View → ℕ → ℕ → Result ℕ Refusal → Journey
dated_journey v i r (Err refusal) = refused refusal
dated_journey v i r (Ok k) = indexed v (v.service i) r k

-- ---- each stage is the rows along its course

module _ (v : View) (s : Service) (late : ℕ) where
  abbrev pub along : Course → Journey
  along c = rows_along v (run_along s late c)

  by-option : (o : Option Refusal) (c : Course) → journey_by o (along c) ≡ along (course_by o c)
  by-option none c = refl
  by-option (some refusal) c = refl

  by-stretches : (none-on two : Bool) (c : Course) → cond none-on (along not_running) (cond two (along (Err TwoStretches)) (along c)) ≡ along (cond none-on not_running (cond two (Err TwoStretches) c))
  by-stretches true two c = refl
  by-stretches false true c = refl
  by-stretches false false c = refl

  pub legs-stages : (bs : List Bool) → journey_on_day v s late bs ≡ along (legs_course s bs)
  unfolding stretch_course
  legs-stages bs =
      ap (λ j. cond (eqb (stretches false bs) 0) (along not_running) (cond (leb 2 (stretches false bs)) (along (Err TwoStretches)) j))
      (by-option (calls_refusal s (stretch_of bs).start (stretch_of bs).legs 0 0 (stretch_calls s (stretch_of bs))) (runs_along (stretch_of bs).start (stretch_of bs).legs))
      ∙ by-stretches (eqb (stretches false bs) 0) (leb 2 (stretches false bs)) (stretch_course s (stretch_of bs).start (stretch_of bs).legs)

pub service-stages : (v : View) (s : Service) (r k : ℕ) → service_journey v s r k ≡ rows_along v (run_along s (lateness s.opening r) (service_course v s r k))
unfolding service_course course_on day_course
service-stages v s r k =
    go (not (has_run s.opening r))
  where
    late : ℕ
    late = lateness s.opening r

    legs : Option Refusal
    legs = first_refusal (leg_refusal v s) (below (leg_count s))

    bs : List Bool
    bs = operated_legs_by v.runs s k

    inner : journey_by legs (journey_on_day v s late bs) ≡ along v s late (course_by legs (legs_course s bs))
    inner = ap (journey_by legs) (legs-stages v s late bs) ∙ by-option v s late legs (legs_course s bs)

    go : (t : Bool) → cond t (along v s late (Err NoSuchRun)) (journey_by legs (journey_on_day v s late bs)) ≡ along v s late (cond t (Err NoSuchRun) (course_by legs (legs_course s bs)))
    go true = refl
    go false = inner

pub indexed-stages : (v : View) (o : Result Service Refusal) (r k : ℕ) → indexed v o r k ≡ rows_along v (run_by v o r k)
indexed-stages v (Err refusal) r k = refl
indexed-stages v (Ok s) r k = service-stages v s r k

pub journey-stages : (v : View) (i r day month year : ℕ) → dated_journey v i r (date_of v day month year) ≡ journey v i r day month year
unfolding journey run_of
journey-stages v i r day month year = on (date_of v day month year)
  where
    on : (t : Result ℕ Refusal) → dated_journey v i r t ≡ rows_along v (dated_run v i r t)
    on (Err refusal) = refl
    on (Ok k) = indexed-stages v (v.service i) r k
