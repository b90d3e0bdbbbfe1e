-- A run goes by the period, by what is known of bit fields and interchange times, and by its own service; a walk never shows the number of the service's
-- opening line, nor of a bit field. By views, so that it holds of every question that goes by runs. Assumes nothing.
use mathlib.Core.Path.{◌≡◌, refl, sym, ap, ◌∙◌}
use mathlib.Core.List.{List, [], ◌∷◌, map}
use mathlib.Core.Bool.{Bool}
use mathlib.Core.Option.{Option}
use Prim.Native.Nat.{ℕ, ◌+◌}
use Rattle.std.specs.Prelude.{Result, Ok, Err, Some, None}
use Rattle.base.specs.Lists.{below}
use Rattle.base.proofs.Laws.{apart}
use Rattle.calendar.specs.Calendar.{day_of}
use Rattle.timetable.specs.Delivery.{Period, DayRange, ExtraRange, Service}
use Rattle.timetable.specs.Legs.{leg_count, operated_legs_by}
use Rattle.timetable.specs.Offences.{◌<|>◌}
use Rattle.timetable.specs.View.{View}
use Rattle.timetable.specs.Run.{Course, leg_refusal, first_refusal, stretch_of, stretch_from, stretch_calls, needed_last, call_refusal, calls_refusal, stretch_course, legs_course, day_course, course_on, service_course, RunFound, no_run, at_rest, a_run, run_along, run_by, run_of}
use Rattle.timetable.specs.Questions.{dated_by, date_of, rows_of, rows, rows_along, dated_run, journey}
use Rattle.timetable.specs.Runs.{lateness}
use Rattle.timetable.specs.declared.Call.{Call}
use Rattle.timetable.specs.declared.refusal.Refusal.{Refusal}
use Rattle.isolation.proofs.Lines.{bare}
use Rattle.isolation.proofs.Days.{besides, day_for, extra_for, service_for, covering-for, known-for, legs-for}

-- ---- a service with other ranges of days and another line: its stretch and its rows

module _ (n : ℕ) (ds : List DayRange) (es : List ExtraRange) (s : Service) where
  calls-besides : (a m i before : ℕ) (cs : List Call) → calls_refusal (besides n ds es s) a m i before cs ≡ calls_refusal s a m i before cs
  unfolding calls_refusal call_refusal
  calls-besides a m i before [] = refl
  calls-besides a m i before (c ∷ cs) = ap (λ (o : Option Refusal). call_refusal s a m i before c <|> o) (calls-besides a m (i + 1) (needed_last m i c) cs)

  stretch-besides : (a m : ℕ) → stretch_course (besides n ds es s) a m ≡ stretch_course s a m
  unfolding stretch_course
  stretch-besides a m = rw (calls-besides a m 0 0 (stretch_calls s (stretch_from a m)))

  legs-besides : (bs : List Bool) → legs_course (besides n ds es s) bs ≡ legs_course s bs
  legs-besides bs = rw (stretch-besides (stretch_of bs).start (stretch_of bs).legs)

  module _ (v u : View) (times : (stop : ℕ) → v.times stop ≡ u.times stop) where
    rows-besides : (a m delay i : ℕ) (cs : List Call) → rows_of v (besides n ds es s) a m delay i cs ≡ rows_of u s a m delay i cs
    unfolding rows_of
    rows-besides a m delay i [] = refl
    rows-besides a m delay i (c ∷ cs) = rw (times c.stop, rows-besides a m delay (i + 1) cs)

-- ---- found services and runs, each with its service changed

abbrev pub found_by : (Service → Service) → Result Service Refusal → Result Service Refusal
found_by f (Err refusal) = Err refusal
found_by f (Ok s) = Ok (f s)

abbrev pub run_for : (Service → Service) → RunFound → RunFound
run_for f (no_run refusal) = no_run refusal
run_for f at_rest = at_rest
run_for f (a_run x) = a_run (record { service = f x.service; late = x.late; start = x.start; legs = x.legs })

run-along : (f : Service → Service) (s : Service) (late : ℕ) (c : Course) → run_for f (run_along s late c) ≡ run_along (f s) late c
run-along f s late (Err refusal) = refl
run-along f s late (Ok None) = refl
run-along f s late (Ok (Some x)) = refl

-- ---- two views: of a bit field σ b the first says what the second says of b; period and interchange times are the same

pub record ViewsAlike (σ : ℕ → ℕ) (v u : View) : Type 0 where
  pub period : v.period ≡ u.period
  pub known : (b : ℕ) → v.known (σ b) ≡ u.known b
  pub runs : (b k : ℕ) → v.runs (σ b) k ≡ u.runs b k
  pub times : (stop : ℕ) → v.times stop ≡ u.times stop

module _ (σ : ℕ → ℕ) (v u : View) (h : ViewsAlike σ v u) where
  leg-for : (n : ℕ) (s : Service) (k : ℕ) → leg_refusal v (service_for σ n s) k ≡ leg_refusal u s k
  leg-for n s k = rw (covering-for σ s.days k, known-for σ v.known u.known h.known s.days k)

  first-for : (n : ℕ) (s : Service) (ks : List ℕ) → first_refusal (leg_refusal v (service_for σ n s)) ks ≡ first_refusal (leg_refusal u s) ks
  unfolding first_refusal
  first-for n s [] = refl
  first-for n s (k ∷ ks) = rw (leg-for n s k, first-for n s ks)

  -- its course on a day, the same for all its runs
  pub course-on : (n : ℕ) (s : Service) (k : ℕ) → course_on v (service_for σ n s) k ≡ course_on u s k
  unfolding course_on day_course
  course-on n s k = rw (
    first-for n s (below (leg_count s)),
    legs-for σ v.runs u.runs h.runs n s k,
    legs-besides n (map (day_for σ) s.days) (map (extra_for σ) s.extras) s (operated_legs_by u.runs s k),
  )

  course-for : (n : ℕ) (s : Service) (r k : ℕ) → service_course v (service_for σ n s) r k ≡ service_course u s r k
  unfolding service_course
  course-for n s r k = rw (course-on n s k)

  pub course-bare : (s : Service) (k : ℕ) → course_on v (bare s) k ≡ course_on v s k
  unfolding course_on day_course
  course-bare s k = rw (legs-besides 0 s.days s.extras s (operated_legs_by v.runs s k))

  bare-course : (s : Service) (r k : ℕ) → service_course v (bare s) r k ≡ service_course v s r k
  unfolding service_course
  bare-course s r k = rw (course-bare s k)

  run-by : (a b : Result Service Refusal) → found_by bare a ≡ found_by (service_for σ 0) b → (r k : ℕ) → run_for bare (run_by v a r k) ≡ run_for (service_for σ 0) (run_by u b r k)
  run-by (Err x) (Err y) q r k = let z : ◌≡◌ {A = Refusal} x y = cc in ap no_run z
  run-by (Err x) (Ok z) q r k = apart (cc)
  run-by (Ok s) (Err y) q r k = apart (cc)
  run-by (Ok s) (Ok z) q r k =
      let x : bare s ≡ service_for σ 0 z = cc in
      run-along bare s (lateness s.opening r) (service_course v s r k)
      ∙ (ap (run_along (bare s) (lateness s.opening r)) (sym (bare-course s r k))
      ∙ (ap (λ (y : Service). run_along y (lateness y.opening r) (service_course v y r k)) x
      ∙ (ap (run_along (service_for σ 0 z) (lateness z.opening r)) (course-for 0 z r k)
      ∙ sym (run-along (service_for σ 0) z (lateness z.opening r) (service_course u z r k)))))

  -- the run of a service that is the same, but for its opening line's number and its bit field numbers
  pub run-alike : (i : ℕ) → found_by bare (v.service i) ≡ found_by (service_for σ 0) (u.service i) → (r k : ℕ) → run_for bare (run_of v i r k) ≡ run_for (service_for σ 0) (run_of u i r k)
  unfolding run_of
  run-alike i q r k = run-by (v.service i) (u.service i) q r k

  rows-bare : (x : RunFound) → rows_along v (run_for bare x) ≡ rows_along v x
  rows-bare (no_run refusal) = refl
  rows-bare at_rest = refl
  rows-bare (a_run x) =
      let s = x.service in
      ap rows (rows-besides 0 s.days s.extras s v v (λ stop. refl) x.start x.legs x.late 0 (stretch_calls s (stretch_from x.start x.legs)))

  rows-for : (x : RunFound) → rows_along v (run_for (service_for σ 0) x) ≡ rows_along u x
  rows-for (no_run refusal) = refl
  rows-for at_rest = refl
  rows-for (a_run x) =
      let s = x.service in
      ap rows (rows-besides 0 (map (day_for σ) s.days) (map (extra_for σ) s.extras) s v u h.times x.start x.legs x.late 0 (stretch_calls s (stretch_from x.start x.legs)))

  rows_alike : (x y : RunFound) → run_for bare x ≡ run_for (service_for σ 0) y → rows_along v x ≡ rows_along u y
  rows_alike x y q = sym (rows-bare x) ∙ (ap (rows_along v) q ∙ rows-for y)

  dated-alike : (i r : ℕ) (on : Result ℕ Refusal) → found_by bare (v.service i) ≡ found_by (service_for σ 0) (u.service i) → rows_along v (dated_run v i r on) ≡ rows_along u (dated_run u i r on)
  dated-alike i r (Err refusal) q = refl
  dated-alike i r (Ok k) q = rows_alike (run_of v i r k) (run_of u i r k) (run-alike i q r k)

  -- and its walk
  pub journey-alike : (i : ℕ) → found_by bare (v.service i) ≡ found_by (service_for σ 0) (u.service i)
      → (r day month year : ℕ) → journey v i r day month year ≡ journey u i r day month year
  unfolding journey
  journey-alike i q r day month year =
      ap (λ (p : Period). rows_along v (dated_run v i r (dated_by p (day_of day month year)))) h.period ∙ dated-alike i r (date_of u day month year) q
