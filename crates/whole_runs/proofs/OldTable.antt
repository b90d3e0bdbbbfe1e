-- Document 02, No. 10, as specs/OldTable.antt states it: each question answers on the table of an accepted delivery as on the old one (`as_before`), every
-- load answers as before (`load-as-before`); no walk of any words answers 32 (`no-32`), since in any table each call's stop is one of its stops
-- (`stops-found`), so that the old test would always pass (`test-passes`). Assumes nothing.
use mathlib.Core.Path.{◌≡◌, refl, sym, ap, ◌∙◌, subst}
use mathlib.Core.List.{List, [], ◌∷◌, ◌++◌, map}
use mathlib.Core.Bool.{Bool, true, false, cond, not}
use mathlib.Core.Option.{Option, none, some}
use Prim.Native.Nat.{ℕ, zero, suc, ◌+◌}
use native.Mathlib.Omega.{arith}
use lib.ListN.{length, take, drop, get_elem?, length-append, length-map}
use lib.Dec.{leb, eqb}
use Rattle.std.specs.Prelude.{Result, Ok, Err}
use Rattle.base.specs.Lists.{All, nil, cons, every, some_of, below, gathered}
use Rattle.base.proofs.Laws.{apart}
use Rattle.base.proofs.Loops.{and-true}
use Rattle.timetable.specs.Layout.{stop_size}
use Rattle.timetable.specs.Delivery.{Files, StopRecord, Service, Delivery}
use Rattle.timetable.specs.Offences.{◌<|>◌}
use Rattle.timetable.specs.Files.{has_stop}
use Rattle.timetable.specs.Legs.{stretches, leg_count, operated_legs}
use Rattle.timetable.specs.Load.{onto, loaded, written_by, written, delivered}
use Rattle.timetable.specs.Runs.{has_run, lateness}
use Rattle.timetable.specs.Table.{stop_place, with_stop, pointing, service_words, table_words, stop_at, stops#, stops_at, table_of, is_table}
use Rattle.timetable.specs.StopNames.{stop_name_asked}
use Rattle.timetable.specs.View.{View, view_of, service_by}
use Rattle.timetable.specs.Run.{Course, runs_along, not_running, leg_refusal, first_refusal, idle_legs, leading_legs, needed_last, call_refusal, calls_refusal, course_by, stretch_course, day_course, course_on, service_course, run_along, run_by, run_of}
use Rattle.timetable.specs.Questions.{date_of, day_asked, interchange_asked, between_asked}
use Rattle.timetable.specs.Questions.{Journey, rows_along, dated_run, journey, walk_of, Walked, walk_refusal, walked_by, walked}
use Rattle.timetable.specs.declared.Call.{Call}
use Rattle.timetable.specs.declared.Loaded.{Loaded}
use Rattle.timetable.specs.declared.Loaded.TheVariants.{Accepted}
use Rattle.timetable.specs.declared.refusal.Refusal.TheVariants.{NoSuchRun, TwoStretches}
use Rattle.timetable.proofs.Records.{service-length}
use Rattle.timetable.proofs.Rows.{length-rows}
use Rattle.timetable.specs.declared.refusal.Refusal.{Refusal}
use Rattle.timetable.specs.Refusals.{number_of}
use Rattle.whole_runs.specs.OldTable.{old_table_words, old_table_of, old_is_table, old_loaded, old_written, old_day_asked, old_interchange_asked, old_between_asked, old_stop_name_asked}
use Rattle.whole_runs.specs.OldTable.{Old, as_now, old_by, refusal_now, old_course_by, old_rows_by, old_calls_refusal, old_run_by, old_dated_run, old_service_course, old_journey, old_walk_of, points_below, AsBefore, TwoTables}
use Rattle.whole_runs.specs.Promise.{is_walk_refusal, AnyWalk, lists, short, nowhere, refuses}
use Rattle.whole_runs.proofs.Lists.{all_drop, all-elem}
use Rattle.whole_runs.proofs.Places.{StopsKnown, services-found, pointed, words-pointed, table-by-places}
use Rattle.whole_runs.proofs.Back.{words-length, table-back}
use Rattle.whole_runs.proofs.Clear.{clear}
use Rattle.whole_runs.proofs.Accepted.{sound-table, clear-sound, stops-known, no-offence, table_is, table-holds}
use Rattle.whole_runs.proofs.Any.{any-walk}

-- ---- as many words

size_same : (stops : List StopRecord) (s : Service) → length (service_words (pointing stops s)) ≡ length (service_words s)
unfolding pointing
size_same stops s = service-length (pointing stops s) ∙ rw (length-map s.calls (with_stop (λ (n : ℕ). stop_place n stops))) (sym (service-length s))

services-same : (stops : List StopRecord) (ss : List Service) → length (gathered service_words (map (pointing stops) ss)) ≡ length (gathered service_words ss)
unfolding gathered
services-same stops [] = refl
services-same stops (s ∷ ss) = simp length-append (omega (arith, size_same stops s, services-same stops ss))

pub words_same : (d : Delivery) → length (table_words d) ≡ length (old_table_words d)
unfolding pointed
words_same d = ap length (words-pointed d) ∙ words-length (pointed d) ∙ simp length-append (omega (arith, services-same d.stops d.services)) ∙ sym (words-length d)

pub load-as-before : (f : Files) (room helper : ℕ) → loaded f room helper ≡ old_loaded f room helper
unfolding loaded old_loaded
load-as-before f room helper = rw (words_same (delivered f))

-- ---- the test for 32 passes where each call's stop is known

-- what is as now throughout
or-now : (o p : Option Refusal) → refusal_now o <|> refusal_now p ≡ refusal_now (o <|> p)
unfolding ◌<|>◌
or-now none p = refl
or-now (some refusal) p = refl

course-now : (not-found : Bool) (leg call : Option Refusal) (idle torn : Bool) (a b c e : Course)
    → cond not-found (as_now a) (old_course_by (refusal_now leg) (cond idle (as_now b) (cond torn (as_now c) (old_course_by (refusal_now call) (as_now e))))) ≡ as_now (cond not-found a (course_by leg (cond idle b (cond torn c (course_by call e)))))
course-now true leg call idle torn a b c e = refl
course-now false (some refusal) call idle torn a b c e = refl
course-now false none call true torn a b c e = refl
course-now false none call false true a b c e = refl
course-now false none (some refusal) false false a b c e = refl
course-now false none none false false a b c e = refl

module _ (d : Delivery) (s : Service) where
  calls_same : (a n i before : ℕ) (cs : List Call) → All (λ (c : Call). has_stop c.stop d.stops ≡ true) cs → old_calls_refusal d s a n i before cs ≡ refusal_now (calls_refusal s a n i before cs)
  unfolding old_calls_refusal calls_refusal ◌<|>◌
  calls_same a n i before [] nil = refl
  calls_same a n i before (c ∷ cs) (cons h t) =
      rw (h, calls_same a n (i + 1) (needed_last n i c) cs t) (or-now (call_refusal s a n i before c) (calls_refusal s a n (i + 1) (needed_last n i c) cs))

  all_take : (k : ℕ) (cs : List Call) → All (λ (c : Call). has_stop c.stop d.stops ≡ true) cs → All (λ (c : Call). has_stop c.stop d.stops ≡ true) (take k cs)
  all_take zero cs h = nil
  all_take (suc k) [] h = nil
  all_take (suc k) (c ∷ cs) (cons h t) = cons h (all_take k cs t)

  course-same : (r k : ℕ) → StopsKnown d.stops s → old_service_course d s r (operated_legs d.fields s k) ≡ as_now (service_course (view_of d) s r k)
  unfolding service_course course_on day_course stretch_course
  course-same r k h =
      let bs = operated_legs d.fields s k in
      let a = idle_legs bs in
      let n = leading_legs (drop a bs) in
      let cs = take (n + 1) (drop a s.calls) in
      let known = all_take (n + 1) (drop a s.calls) (all_drop (λ (c : Call). has_stop c.stop d.stops ≡ true) a s.calls h) in
      let legs = first_refusal (leg_refusal (view_of d) s) (below (leg_count s)) in
      ap
      (λ (o : Option (Old Refusal)). cond (not (has_run s.opening r)) (as_now (Err NoSuchRun))
      (old_course_by (refusal_now legs)
      (cond (eqb (stretches false bs) 0) (as_now not_running) (cond (leb 2 (stretches false bs)) (as_now (Err TwoStretches)) (old_course_by o (as_now (runs_along a n)))))))
      (calls_same a n 0 0 cs known)
      ∙ course-now (not (has_run s.opening r)) legs (calls_refusal s a n 0 0 cs) (eqb (stretches false bs) 0) (leb 2 (stretches false bs)) (Err NoSuchRun) not_running (Err TwoStretches) (runs_along a n)

module _ (d : Delivery) (known : All (StopsKnown d.stops) d.services) where
  pub journey-same : (i r day month year : ℕ) → old_journey d i r day month year ≡ as_now (journey (view_of d) i r day month year)
  unfolding old_journey journey run_of
  journey-same i r day month year = ap (old_by (rows_along (view_of d))) (on (date_of (view_of d) day month year))
    where
      found : (k : ℕ) (o : Option Service) → get_elem? d.services i ≡ o → old_run_by d o r k ≡ as_now (run_by (view_of d) (service_by o) r k)
      found k none e = refl
      found k (some s) e = ap (old_by (run_along s (lateness s.opening r))) (course-same d s r k (all-elem (StopsKnown d.stops) d.services i s known e))

      on : (t : Result ℕ Refusal) → old_dated_run d i r t ≡ as_now (dated_run (view_of d) i r t)
      on (Err refusal) = refl
      on (Ok k) = found k (get_elem? d.services i) refl

-- ---- any words

module _ (w : List ℕ) (e : is_table w ≡ true) where
  -- In any words that are a table each call has one of the table's stops.
  pub stops-found : All (λ (s : Service). All (λ (c : Call). has_stop c.stop (table_of w).stops ≡ true) s.calls) (table_of w).services
  unfolding table_of stops_at old_table_of
  stops-found =
      let stops = (old_table_of w).stops in
      let places = (and-true (old_is_table w) (every (points_below (stops# w)) (old_table_of w).services) (sym (table-by-places w) ∙ e)).1 in
      let n : length stops ≡ stops# w = length-rows stop_at stop_size (stops# w) _ in
      services-found stops (old_table_of w).services (rw n places)

  -- So with the test for 32 every walk would be the same.
  pub test-passes : (i r day month year : ℕ) → old_journey (table_of w) i r day month year ≡ as_now (journey (view_of (table_of w)) i r day month year)
  test-passes = journey-same (table_of w) stops-found

abbrev numbered_by : Walked → ℕ
numbered_by (Err w) = number_of w.refusal
numbered_by (Ok o) = 0

-- "show that 32 can no longer occur": not on any words, with any room
pub no-32 : (w : List ℕ) (i r day month year room needed : ℕ) (refusal : Refusal) → number_of refusal ≡ 32 → walked w i r day month year room ≡ Err (walk_refusal refusal needed) → ⊥
unfolding is_walk_refusal some_of
no-32 w i r day month year room needed refusal n = go (any-walk w i r day month year room)
  where
    go : {a : Walked} → AnyWalk (table_of w) i (date_of (view_of (table_of w)) day month year) room a → a ≡ Err (walk_refusal refusal needed) → ⊥
    go (lists s k u h) e = apart (cc)
    go (short s k u h) e =
        let z : ◌≡◌ {A = ℕ} 29 32 = ap numbered_by e ∙ n in
        omega (arith, z)
    go (nowhere s k u) e = apart (cc)
    go (refuses r h) e =
        let z : number_of r ≡ 32 = ap numbered_by e ∙ n in
        let y : false ≡ true = subst (λ (m : ℕ). is_walk_refusal m ≡ true) z h in
        apart (cc)

-- ---- the two tables of an accepted delivery

-- words that are a table, and the old table's, which hold the same delivery
module _ (w old : List ℕ) (d : Delivery) (is : is_table w ≡ true) (holds : table_of w ≡ d) (old_is : old_is_table old ≡ true) (old_holds : old_table_of old ≡ d) (known : All (StopsKnown d.stops) d.services) where
  walks_same : (i r day month year : ℕ) → as_now (walk_of w i r day month year) ≡ old_walk_of old i r day month year
  unfolding walk_of old_walk_of
  walks_same i r day month year = rw (is, holds, old_is, old_holds) (sym (journey-same d known i r day month year))

  answers-same : AsBefore w old
  unfolding day_asked old_day_asked interchange_asked old_interchange_asked between_asked old_between_asked stop_name_asked old_stop_name_asked
  answers-same = record {
    day = λ day month year b. rw (is, holds, old_is, old_holds) refl;
    interchange = λ n a b. rw (is, holds, old_is, old_holds) refl;
    between = λ n a b. rw (is, holds, old_is, old_holds) refl;
    stop_name = λ bahnhof stop language type. rw (is, holds, old_is, old_holds) refl;
    walk = λ i r day month year room. ap (old_by (λ (j : Journey). walked_by j room)) (walks_same i r day month year);
    rows_walked = λ i r day month year lent. ap (λ (j : Old Journey). old_rows_by j lent) (walks_same i r day month year);
  }

module _ (f : Files) (t : List ℕ) (helper u : ℕ) (e : loaded f (length t) helper ≡ Accepted u) where
  old-written : old_written f t helper ≡ old_table_words (delivered f) ++ drop (length (old_table_words (delivered f))) t
  unfolding old_written onto
  old-written = ap (λ (a : Loaded). written_by a (old_table_words (delivered f)) t) (sym (load-as-before f (length t) helper) ∙ e)

  old-table : old_is_table (old_written f t helper) ≡ true
  old-table = ap old_is_table old-written ∙ sound-table (delivered f) (clear-sound f (clear f (no-offence f t helper u e))) (drop (length (old_table_words (delivered f))) t)

  old-back : old_table_of (old_written f t helper) ≡ delivered f
  old-back = ap old_table_of old-written ∙ table-back f (drop (length (old_table_words (delivered f))) t)

  -- "for every accepted delivery each question answers as it did on the old table"
  pub as_before : TwoTables f t helper
  as_before = record {
    same_load = load-as-before f (length t) helper;
    same_length = words_same (delivered f);
    is = table_is f t helper u e;
    old_is = old-table;
    holds = table-holds f t helper u e;
    old_holds = old-back;
    answers = answers-same (written f t helper) (old_written f t helper) (delivered f) (table_is f t helper u e) (table-holds f t helper u e) old-table old-back (stops-known f (clear f (no-offence f t helper u e)));
  }
