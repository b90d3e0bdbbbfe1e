-- The walk of any words, table or not: `any-walk`, all that it may answer, by the room lent. specs/Promise.antt states it. Assumes nothing.
use mathlib.Core.Path.{◌≡◌, refl, sym, ap, ◌∙◌, subst}
use mathlib.Core.List.{List, [], ◌∷◌}
use mathlib.Core.Bool.{Bool, true, false, cond, not, ◌&&◌, ◌||◌}
use mathlib.Core.Option.{Option, none, some}
use Prim.Native.Nat.{ℕ, zero, suc, ◌+◌, ◌-◌, ◌*◌, ◌/◌, ◌≤◌}
use native.Mathlib.Omega.{arith}
use lib.ListN.{length, drop, get_elem?}
use lib.Dec.{ltb, leb, eqb}
use Rattle.std.specs.Prelude.{Result, Ok, Err, Some}
use Rattle.base.specs.Lists.{every, some_of, below}
use Rattle.base.proofs.Laws.{apart, by-ltb, by-leb, by_eqb}
use Rattle.calendar.specs.Calendar.{day_of}
use Rattle.std.specs.Prelude.{Option as Optional, Some, None}
use Rattle.timetable.specs.Runs.{has_run, lateness}
use Rattle.timetable.specs.Layout.{row_size}
use Rattle.timetable.specs.Delivery.{Period, CategoryRange, DayRange, Service, Delivery}
use Rattle.timetable.specs.Legs.{covers, covering, field_known, operated, stretches, leg_count, operated_legs}
use Rattle.timetable.specs.Table.{table_of, is_table}
use Rattle.timetable.specs.Run.{refuse, leg_refusal, first_refusal, idle_legs, leading_legs, stretch_of, stretch_calls, times_needed, needed_last, call_refusal, calls_refusal}
use Rattle.timetable.specs.View.{view_of, service_by}
use Rattle.timetable.specs.Questions.{dated_by, date_of}
use Rattle.timetable.specs.Questions.{Journey, refused, idle, rows, journey, walk_of, Walked, walk_refusal, walked_by, walked}
use Rattle.timetable.proofs.Stages.{journey_by, stretch_journey, journey_on_day, service_journey, indexed, dated_journey, journey-stages}
use Rattle.timetable.specs.declared.Call.{Call}
use Rattle.timetable.proofs.Offences.{one_of}
use Rattle.timetable.specs.declared.refusal.Refusal.{Refusal}
use Rattle.timetable.specs.Refusals.{number_of}
use Rattle.timetable.specs.declared.refusal.Refusal.TheVariants.{NoTable, NoSuchDate, OutsidePeriod, NoSuchService, NoSuchRun, TooFewWords, LegFieldUnknown, LegCategoryNotOnce, LegDaysNotOnce, TwoStretches, TimeNeeded}
use Rattle.whole_runs.specs.Rows.{RunsNowhere, Unbroken}
use Rattle.whole_runs.specs.Promise.{is_walk_refusal, AnyWalk, lists, short, nowhere, refuses, TwoRows}
use Rattle.whole_runs.proofs.Stretch.{still, one-stretch, legs-at}
use Rattle.whole_runs.proofs.Rows.{rows-size, one-unbroken, part_length}

-- ---- refusals before 29

abbrev pub Refused : Refusal → Type 0
Refused r = is_walk_refusal (number_of r) ≡ true

abbrev Refusals : Option Refusal → Type 0
Refusals o = (r : Refusal) → o ≡ some r → Refused r

by-test : (t : Bool) (r : Refusal) → Refused r → Refusals (refuse t r)
by-test true r h m e = let z : r ≡ m = cc in subst Refused z h
by-test false r h m e = apart (cc)

pub date-refusal : (p : Period) (t : Optional ℕ) (r : Refusal) → dated_by p t ≡ Err r → Refused r
unfolding is_walk_refusal some_of
date-refusal p None r e = let z : ◌≡◌ {A = Refusal} NoSuchDate r = cc in subst Refused z refl
date-refusal p (Some k) r e = go (leb p.start k && ltb k (p.start + p.n)) e
  where
    go : (t : Bool) → cond t (Ok (k - p.start)) (Err OutsidePeriod) ≡ Err r → Refused r
    go true e = apart (cc)
    go false e = let z : ◌≡◌ {A = Refusal} OutsidePeriod r = cc in subst Refused z refl

module _ (d : Delivery) (s : Service) where
  by-leg : (ks : List ℕ) → Refusals (first_refusal (leg_refusal (view_of d) s) ks)
  unfolding first_refusal is_walk_refusal some_of
  by-leg [] n e = apart (cc)
  by-leg (k ∷ ks) n e =
      one_of (leg_refusal (view_of d) s k) (first_refusal (leg_refusal (view_of d) s) ks) e (λ e.
      one_of _ _ e (by-test (not (eqb (covering (λ (r : DayRange). r.legs) s.days k) 1)) LegDaysNotOnce refl n)
      (by-test (not (every (λ (r : DayRange). not (covers k r.legs) || field_known r.field d.fields) s.days)) LegFieldUnknown refl n))
      (by-leg ks n)

  by_call : (a n i before : ℕ) (cs : List Call) → Refusals (calls_refusal s a n i before cs)
  unfolding call_refusal calls_refusal is_walk_refusal some_of
  by_call a n i before [] m e = apart (cc)
  by_call a n i before (c ∷ cs) m e =
      one_of (call_refusal s a n i before c) (calls_refusal s a n (i + 1) (needed_last n i c) cs) e (λ e.
      one_of _ _ e (by-test (not (times_needed n i before c)) TimeNeeded refl m)
      (by-test (ltb i n && not (eqb (covering (λ (r : CategoryRange). r.legs) s.categories (a + i)) 1)) LegCategoryNotOnce refl m))
      (by_call a n (i + 1) (needed_last n i c) cs m)

-- ---- what a walk is, before 29 is looked at

data Meant (d : Delivery) (i : ℕ) (on : Result ℕ Refusal) : Journey → Type 0 where
  not-given : (r : Refusal) → Refused r → Meant d i on (refused r)
  not_running : {s : Service} {k : ℕ} → get_elem? d.services i ≡ some s → on ≡ Ok k → RunsNowhere d s k → Meant d i on idle
  a-stretch : {s : Service} {k start legs : ℕ} {ws : List ℕ} → get_elem? d.services i ≡ some s → on ≡ Ok k → Unbroken d s k start legs
      → length ws ≡ row_size * (legs + 1) → Meant d i on (rows ws)

-- no leg operates where they form no stretch
pub runs-nowhere : (d : Delivery) (s : Service) (k : ℕ) → stretches false (operated_legs d.fields s k) ≡ 0 → RunsNowhere d s k
runs-nowhere d s k e j m = sym (legs-at (operated d.fields s.days k) (leg_count s) j m) ∙ still (operated_legs d.fields s k) e j

module _ (d : Delivery) (i : ℕ) (on : Result ℕ Refusal) where
  after : (o : Option Refusal) {j : Journey} → Refusals o → Meant d i on j → Meant d i on (journey_by o j)
  after none h m = m
  after (some n) h m = not-given n (h n refl)

  module _ (s : Service) (r k : ℕ) (found : get_elem? d.services i ≡ some s) (day : on ≡ Ok k) where
    bs : List Bool
    bs = operated_legs d.fields s k

    a : ℕ
    a = idle_legs bs

    n : ℕ
    n = leading_legs (drop a bs)

    stretch-meant : stretches false bs ≡ 1 → Meant d i on (stretch_journey (view_of d) s (lateness s.opening r) (stretch_of bs))
    unfolding a n bs
    stretch-meant e =
        let one = one-stretch bs e in
        let l = part_length d s r k a n one in
        after (calls_refusal s a n 0 0 (stretch_calls s (stretch_of bs))) (by_call d s a n 0 0 (stretch_calls s (stretch_of bs)))
        (a-stretch found day (one-unbroken d s r k a n one) (rows-size d s a n (lateness s.opening r) 0 (stretch_calls s (stretch_of bs)) ∙ ap (λ (m : ℕ). row_size * m) l))

    day-meant : Meant d i on (journey_on_day (view_of d) s (lateness s.opening r) (operated_legs d.fields s k))
    unfolding bs is_walk_refusal some_of
    day-meant =
        let t = stretches false bs in
        by_eqb (λ b. Meant d i on (cond b idle (cond (leb 2 t) (refused TwoStretches) (stretch_journey (view_of d) s (lateness s.opening r) (stretch_of bs))))) t 0
        (λ e. not_running found day (runs-nowhere d s k e))
        (λ z. by-leb (λ b. Meant d i on (cond b (refused TwoStretches) (stretch_journey (view_of d) s (lateness s.opening r) (stretch_of bs)))) 2 t
        (λ h. not-given TwoStretches refl)
        (λ h. stretch-meant (omega (arith, z))))

    service-meant : Meant d i on (service_journey (view_of d) s r k)
    unfolding is_walk_refusal some_of
    service-meant =
        go (not (has_run s.opening r))
      where
        go : (t : Bool) → Meant d i on (cond t (refused NoSuchRun) (journey_by (first_refusal (leg_refusal (view_of d) s) (below (leg_count s))) (journey_on_day (view_of d) s (lateness s.opening r) (operated_legs d.fields s k))))
        go true = not-given NoSuchRun refl
        go false = after (first_refusal (leg_refusal (view_of d) s) (below (leg_count s))) (by-leg d s (below (leg_count s))) day-meant

any-journey : (d : Delivery) (i r day m y : ℕ) → Meant d i (date_of (view_of d) day m y) (journey (view_of d) i r day m y)
unfolding is_walk_refusal some_of
any-journey d i r day m y = subst (Meant d i (date_of (view_of d) day m y)) (journey-stages (view_of d) i r day m y) (go (date_of (view_of d) day m y) refl)
  where
    indexed-meant : (k : ℕ) → date_of (view_of d) day m y ≡ Ok k → (o : Option Service) → get_elem? d.services i ≡ o → Meant d i (date_of (view_of d) day m y) (indexed (view_of d) (service_by o) r k)
    indexed-meant k q none e = not-given NoSuchService refl
    indexed-meant k q (some s) e = service-meant d i (date_of (view_of d) day m y) s r k e q

    go : (t : Result ℕ Refusal) → date_of (view_of d) day m y ≡ t → Meant d i (date_of (view_of d) day m y) (dated_journey (view_of d) i r t)
    go (Err r) q = not-given r (date-refusal d.period (day_of day m y) r q)
    go (Ok k) q = indexed-meant k q (get_elem? d.services i) refl

-- ---- its answer, by the room lent

answered : {d : Delivery} {i : ℕ} {on : Result ℕ Refusal} {j : Journey} → Meant d i on j → (room : ℕ) → AnyWalk d i on room (walked_by j room)
answered (not-given n h) room = refuses n h
answered (not_running s k u) room = nowhere s k u
answered {d} {i} {on} (a-stretch {legs = legs} {ws = ws} s k u z) room =
    by-ltb (λ t. AnyWalk d i on room (cond t (Err (walk_refusal TooFewWords (length ws))) (Ok (Some (length ws / row_size))))) room (length ws)
    (λ l. rw z (short s k u (omega arith)))
    (λ l. let n : length ws / row_size ≡ legs + 1 = omega arith in rw n (lists s k u (omega arith)))

pub any-walk : (w : List ℕ) (i r d m y room : ℕ) → AnyWalk (table_of w) i (date_of (view_of (table_of w)) d m y) room (walked w i r d m y room)
unfolding walk_of is_walk_refusal some_of
any-walk w i r d m y room = go (is_table w)
  where
    go : (t : Bool) → AnyWalk (table_of w) i (date_of (view_of (table_of w)) d m y) room (walked_by (cond t (journey (view_of (table_of w)) i r d m y) (refused NoTable)) room)
    go true = answered (any-journey (table_of w) i r d m y) room
    go false = refuses NoTable refl

-- a listing has at least two rows
pub two-rows : (w : List ℕ) (i r d m y room : ℕ) → TwoRows (walked w i r d m y room)
two-rows w i r d m y room = go (any-walk w i r d m y room)
  where
    go : {a : Walked} → AnyWalk (table_of w) i (date_of (view_of (table_of w)) d m y) room a → TwoRows a
    go (lists s k u h) = let l = u.some_leg in omega arith
    go (short s k u h) = tt
    go (nowhere s k u) = tt
    go (refuses n h) = tt
