-- Demand 3, proved; specs/Promise.antt states it, clause by clause. Assumes nothing.
use mathlib.Core.Path.{◌≡◌, refl, sym, ap, ◌∙◌, subst}
use mathlib.Core.List.{List, ◌++◌}
use mathlib.Core.Bool.{Bool, true, false, cond, not}
use mathlib.Core.Option.{Option, none, some}
use Prim.Native.Nat.{ℕ, ◌+◌, ◌-◌, ◌*◌, ◌/◌, ◌<◌, ◌≤◌}
use native.Mathlib.Omega.{arith}
use lib.ListN.{length, drop}
use lib.Dec.{ltb, leb, eqb}
use borrow.Author.Tests.{le-leb, lt-ltb, le-ltb, ltb-true, leb-false, eqb-true, eqb-false}
use Rattle.std.specs.Prelude.{Ok, Some, Err}
use Rattle.base.specs.Lists.{All, below}
use Rattle.base.proofs.Laws.{apart, clash, by-ltb}
use Rattle.calendar.specs.Calendar.{day_of}
use Rattle.std.specs.Prelude.{Option as Optional, Some}
use Rattle.lines.specs.Lines.{lines_of}
use Rattle.timetable.specs.Runs.{has_run, lateness}
use Rattle.timetable.specs.Delivery.{Files, Period, DayRange, Service, Delivery}
use Rattle.timetable.specs.Service.{blocks}
use Rattle.timetable.specs.Legs.{covers, operated, field_runs, stretches, leg_count, operated_legs}
use Rattle.timetable.specs.Load.{delivered, offence, onto, loaded, written}
use Rattle.timetable.specs.Table.{table_words}
use Rattle.timetable.specs.Table.{table_of, is_table}
use Rattle.timetable.specs.Run.{leg_refusal, first_refusal, idle_legs, leading_legs, stretch_of, stretch_calls, calls_refusal}
use Rattle.timetable.specs.View.{view_of, service_by}
use Rattle.timetable.specs.Questions.{dated_by, rows_of, Journey, refused, idle, rows, journey, walk_of, Walked, walk_refusal, walked_by, walked, rows_by, walk_rows}
use Rattle.timetable.proofs.Stages.{journey_by, stretch_journey, journey_on_day, service_journey, indexed, dated_journey, journey-stages}
use Rattle.timetable.specs.Layout.{row_size}
use Rattle.timetable.specs.declared.Loaded.{Loaded}
use Rattle.timetable.specs.declared.Loaded.TheVariants.{Accepted}
use Rattle.timetable.specs.declared.refusal.Refusal.{Refusal}
use Rattle.timetable.specs.declared.WalkRefusal.{WalkRefusal}
use Rattle.timetable.specs.declared.refusal.Refusal.TheVariants.{NoSuchRun, TooFewWords, TwoStretches}
use Rattle.whole_runs.specs.Rows.{RunsNowhere}
use Rattle.whole_runs.proofs.RunsBy.{runs_by}
use Rattle.whole_runs.specs.Promise.{Outcome, not_running, runs, Demand3, Asked, OwnRun, Walk, short, Short}
use Rattle.whole_runs.proofs.Lists.{all-elem, only-says}
use Rattle.whole_runs.proofs.Clear.{Clear, clear}
use Rattle.whole_runs.proofs.Accepted.{clear-sound, words-table, words-hold, no-offence, table_is, table-holds, walk-held}
use Rattle.whole_runs.proofs.Right.{Right, services-right, from-text}
use Rattle.whole_runs.proofs.Once.{interchanges-own}
use Rattle.whole_runs.proofs.Text.{own-text}
use Rattle.whole_runs.proofs.Stretch.{one-stretch}
use Rattle.whole_runs.proofs.Resolved.{legs-resolved, stretch-resolved}
use Rattle.whole_runs.proofs.Rows.{Interchanges, inside, stretched}
use Rattle.whole_runs.proofs.Announced.{rows-announce}
use Rattle.whole_runs.proofs.ClassLines.{services-listed, rows-classed}
use Rattle.whole_runs.proofs.Any.{runs-nowhere}

-- ---- a day of a service

-- a walk that is not refused goes on
goes_on : (P : Journey → Type 0) (t : Bool) (o : Option Refusal) (j x : Journey) → t ≡ false → o ≡ none → P j → P (cond t x (journey_by o j))
goes_on P false none j x p q h = h
goes_on P false (some o) j x p q h = apart (cc)
goes_on P true o j x p q h = clash (sym p)

module _ (d : Delivery) (s : Service) (h : Right d s) (known : Interchanges d) (r k : ℕ) where
  day-outcome : k < d.period.n → Outcome d s r k (journey_on_day (view_of d) s (lateness s.opening r) (operated_legs d.fields s k))
  day-outcome l = go (eqb (stretches false bs) 0) refl
    where
      bs : List Bool
      bs = operated_legs d.fields s k

      a : ℕ
      a = idle_legs bs

      n : ℕ
      n = leading_legs (drop a bs)

      go : (t : Bool) → eqb (stretches false bs) 0 ≡ t → Outcome d s r k (cond t idle (cond (leb 2 (stretches false bs)) (refused TwoStretches) (stretch_journey (view_of d) s (lateness s.opening r) (stretch_of bs))))
      go true q = not_running (runs-nowhere d s k (eqb-true (stretches false bs) 0 q))
      go false q =
          let w = h.whole k l in
          let b = leb-false 2 (stretches false bs) w in
          let z = eqb-false (stretches false bs) 0 q in
          let one = one-stretch bs (omega (arith, z)) in
          goes_on (Outcome d s r k) (leb 2 (stretches false bs)) (calls_refusal s a n 0 0 (stretch_calls s (stretch_of bs))) (rows (rows_of (view_of d) s a n (lateness s.opening r) 0 (stretch_calls s (stretch_of bs)))) (refused TwoStretches)
          w
          (stretch-resolved d s h a n (inside d s r k a n one))
          (runs (stretched d s r k a n one h known))

  service-outcome : has_run s.opening r ≡ true → k < d.period.n → Outcome d s r k (service_journey (view_of d) s r k)
  service-outcome l m =
      goes_on (Outcome d s r k) (not (has_run s.opening r)) (first_refusal (leg_refusal (view_of d) s) (below (leg_count s))) (journey_on_day (view_of d) s (lateness s.opening r) (operated_legs d.fields s k)) (refused NoSuchRun)
      (ap not l) (legs-resolved d s h) (day-outcome m)

-- ---- what an outcome excludes

module _ {d : Delivery} {s : Service} {r k : ℕ} where
  not-refused : {j : Journey} → Outcome d s r k j → (refusal : Refusal) → j ≡ refused refusal → ⊥
  not-refused (not_running x) refusal e = apart (cc)
  not-refused (runs x) refusal e = apart (cc)

  says-idle : {j : Journey} → Outcome d s r k j → j ≡ idle → RunsNowhere d s k
  says-idle (not_running x) e = x
  says-idle (runs x) e = apart (cc)

  is-idle : {j : Journey} → Outcome d s r k j → RunsNowhere d s k → j ≡ idle
  is-idle (not_running x) n = refl
  is-idle (runs x) n =
      let u = x.unbroken in let l = u.some_leg in let i = u.inside in
      clash (sym (n x.start (omega arith)) ∙ u.operates x.start (omega arith) (omega arith))

-- ---- the walk of a delivery

date-in : (p : Period) (o : Optional ℕ) (day : ℕ) → o ≡ Some day → p.start ≤ day → day < p.start + p.n → dated_by p o ≡ Ok (day - p.start)
date-in p o day e a b = rw (e, le-leb p.start day a, lt-ltb day (p.start + p.n) b)

journey-is : (f : Files) (i r d m y day : ℕ) (s : Service) → Asked f i r d m y s day → journey (view_of (delivered f)) i r d m y ≡ service_journey (view_of (delivered f)) s r (day - (delivered f).period.start)
journey-is f i r d m y day s a =
    sym (journey-stages (view_of (delivered f)) i r d m y)
    ∙ ap (dated_journey (view_of (delivered f)) i r) (date-in (delivered f).period (day_of d m y) day a.date a.from a.until)
    ∙ ap (λ (o : Option Service). indexed (view_of (delivered f)) (service_by o) r (day - (delivered f).period.start)) a.service

-- a leg operates exactly when the bit field of its one range runs
leg-day : (d : Delivery) (s : Service) → Right d s → (k j : ℕ) → j < leg_count s
    → All (λ (g : DayRange). covers j g.legs ≡ true → operated d.fields s.days k j ≡ field_runs d.fields g.field k) s.days
leg-day d s h k j l = only-says (λ (g : DayRange). covers j g.legs) (λ (g : DayRange). field_runs d.fields g.field k) s.days (h.days j l)

-- any words that are a table and hold a delivery without an offence
walk-demand : (f : Files) → Clear f → (w : List ℕ) → is_table w ≡ true → table_of w ≡ delivered f
    → (i r d m y day : ℕ) (s : Service) → Asked f i r d m y s day
    → Demand3 f i s r (day - (delivered f).period.start) (walk_of w i r d m y)
walk-demand f c w is holds i r d m y day s a =
    let h = all-elem (Right (delivered f)) (delivered f).services i s (services-right f c) a.service in
    let k = day - (delivered f).period.start in
    let from = a.from in let until = a.until in
    let known : Interchanges (delivered f) = record { own = interchanges-own f c; some-record = (clear-sound f c).interchanges } in
    let o : Outcome (delivered f) s r k (walk_of w i r d m y) = subst (Outcome (delivered f) s r k) (sym (walk-held w (delivered f) is holds i r d m y ∙ journey-is f i r d m y day s a)) (service-outcome (delivered f) s h known r k a.repeat (omega arith)) in
    record {
      outcome = o;
      never_refused = not-refused o;
      idle_only = says-idle o;
      idle_always = is-idle o;
      own = record {
        delivery = own-text f c;
        service = from-text f c i s a.service;
        one_range = h.days;
        fields_known = h.fields;
        leg_days = leg-day (delivered f) s h k;
        runs_by = runs_by s.opening;
        announced = rows-announce (blocks (lines_of f.fplan)) i s (from-text f c i s a.service) (delivered f);
        classed = rows-classed f c s (services-listed f c i s a.service);
      };
    }

-- Demand 3: the walk of an accepted delivery's table.
pub demand3 : (f : Files) (t : List ℕ) (helper u : ℕ) → loaded f (length t) helper ≡ Accepted u
    → (i r d m y day : ℕ) (s : Service) → Asked f i r d m y s day
    → Demand3 f i s r (day - (delivered f).period.start) (walk_of (written f t helper) i r d m y)
demand3 f t helper u e = walk-demand f (clear f (no-offence f t helper u e)) (written f t helper) (table_is f t helper u e) (table-holds f t helper u e)

-- the same of its words alone, or copied to any other place, whatever follows them there
pub demand3-copied : (f : Files) → offence f ≡ none → (rest : List ℕ)
    → (i r d m y day : ℕ) (s : Service) → Asked f i r d m y s day
    → Demand3 f i s r (day - (delivered f).period.start) (walk_of (table_words (delivered f) ++ rest) i r d m y)
demand3-copied f e rest = walk-demand f (clear f e) (table_words (delivered f) ++ rest) (words-table f e rest) (words-hold f e rest)

-- ---- its answer and the rows, with any room

by-room : (P : Walked → List ℕ → Type 0) (room needed : ℕ) {a b : Walked} {x y : List ℕ} → (room < needed → P a x) → (needed ≤ room → P b y) → P (cond (ltb room needed) a b) (cond (ltb room needed) x y)
by-room P room needed {a} {b} {x} {y} f g = by-ltb (λ t. P (cond t a b) (cond t x y)) room needed f g

module _ {d : Delivery} {s : Service} {r k : ℕ} where
  walk-by : {j : Journey} → Outcome d s r k j → (lent : List ℕ) → Walk d s r k lent (walked_by j (length lent)) (rows_by j lent)
  walk-by (not_running x) lent = not_running x
  walk-by (runs {ws} x) lent =
      let z = x.size in
      let n : x.legs + 1 ≡ length ws / row_size = omega arith in
      by-room (Walk d s r k lent) (length lent) (length ws)
      (λ l. subst (λ (v : ℕ). Walk d s r k lent (Err (walk_refusal TooFewWords v)) lent) (sym z) (short x (omega arith)))
      (λ l. subst (λ (v : ℕ). Walk d s r k lent (Ok (Some v)) (onto ws lent)) n (runs x (omega arith)))

  refusal-by : {j : Journey} → Outcome d s r k j → (room : ℕ) (refusal : Refusal) (needed : ℕ) → walked_by j room ≡ Err (walk_refusal refusal needed) → Short s j room refusal needed
  refusal-by (not_running x) room refusal needed e = apart (cc)
  refusal-by (runs {ws} x) room refusal needed e = go (ltb room (length ws)) refl e
    where
      go : (t : Bool) → ltb room (length ws) ≡ t → cond t (Err (walk_refusal TooFewWords (length ws))) (Ok (Some (length ws / row_size))) ≡ Err (walk_refusal refusal needed) → Short s (rows ws) room refusal needed
      go true q e =
          let f : ◌≡◌ {A = WalkRefusal} (walk_refusal TooFewWords (length ws)) (walk_refusal refusal needed) = cc in
          let p : ◌≡◌ {A = Refusal} TooFewWords refusal = ap (λ (y : WalkRefusal). y.refusal) f in
          let v : ◌≡◌ {A = ℕ} (length ws) needed = ap (λ (y : WalkRefusal). y.needed) f in
          let w = ltb-true room (length ws) q in
          let z = x.size in let i = x.unbroken.inside in let l = x.unbroken.some_leg in
          record { only = sym p; lacking = omega arith; enough = rw (le-ltb needed (length ws) (omega arith), v); most = omega arith }
      go false q e = apart (cc)

-- Demand 3, for the answer and the rows, whatever room is lent.
pub demand3-rows : (f : Files) (t : List ℕ) (helper u : ℕ) → loaded f (length t) helper ≡ Accepted u
    → (i r d m y day : ℕ) (s : Service) → Asked f i r d m y s day
    → (lent : List ℕ)
    → Walk (delivered f) s r (day - (delivered f).period.start) lent (walked (written f t helper) i r d m y (length lent)) (walk_rows (written f t helper) i r d m y lent)
demand3-rows f t helper u e i r d m y day s a lent = walk-by (demand3 f t helper u e i r d m y day s a).outcome lent

-- Of code that keeps its promises: load answers a and leaves the words w, and walk of these answers b and leaves the rows v.
pub demand3-promised : (f : Files) (t : List ℕ) (helper : ℕ) {a : Loaded} {w : List ℕ} → a ≡ loaded f (length t) helper → w ≡ written f t helper → (u : ℕ) → a ≡ Accepted u
    → (i r d m y day : ℕ) (s : Service) → Asked f i r d m y s day
    → (lent : List ℕ)
    → {b : Walked} {v : List ℕ} → b ≡ walked w i r d m y (length lent) → v ≡ walk_rows w i r d m y lent
    → OwnRun f i s (day - (delivered f).period.start) × Walk (delivered f) s r (day - (delivered f).period.start) lent b v
demand3-promised f t helper p q u e i r d m y day s a lent x z =
    rw (x, z, q) ((demand3 f t helper u (sym p ∙ e) i r d m y day s a).own, demand3-rows f t helper u (sym p ∙ e) i r d m y day s a lent)

-- The only refusal is 29, and it names words that are enough.
pub only-29 : (f : Files) (t : List ℕ) (helper u : ℕ) → loaded f (length t) helper ≡ Accepted u
    → (i r d m y day : ℕ) (s : Service) → Asked f i r d m y s day
    → (room : ℕ) (refusal : Refusal) (needed : ℕ) → walked (written f t helper) i r d m y room ≡ Err (walk_refusal refusal needed) → Short s (walk_of (written f t helper) i r d m y) room refusal needed
only-29 f t helper u e i r d m y day s a room refusal needed w = refusal-by (demand3 f t helper u e i r d m y day s a).outcome room refusal needed w

-- With room for every call of the service it is not refused.
pub room-enough : {d : Delivery} {s : Service} {r k : ℕ} {lent : List ℕ} {a : Walked} {v : List ℕ} → Walk d s r k lent a v → row_size * length s.calls ≤ length lent
    → (refusal : Refusal) (needed : ℕ) → a ≡ Err (walk_refusal refusal needed) → ⊥
room-enough (not_running x) h refusal needed e = apart (cc)
room-enough (short x l) h refusal needed e = let i = x.unbroken.inside in let n = x.unbroken.some_leg in omega arith
room-enough (runs x l) h refusal needed e = apart (cc)
