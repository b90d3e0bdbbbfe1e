-- Of an accepted delivery a connection is refused only by what is left: of the walk's own refusals by 22 to 25, and never by 38. Assumes nothing.
use mathlib.Core.Path.{◌≡◌, refl, sym, ◌∙◌, subst, ap}
use mathlib.Core.List.{List, [], ◌∷◌}
use mathlib.Core.Bool.{Bool, true, false, cond, not, ◌&&◌}
use mathlib.Core.Option.{Option, none, some}
use Prim.Native.Nat.{ℕ, ◌+◌, ◌-◌, ◌≤◌}
use native.Mathlib.Omega.{arith}
use lib.ListN.{length, get_elem?}
use lib.Dec.{ltb, leb, eqb}
use borrow.Author.Tests.{not-false}
use Rattle.std.specs.Prelude.{Result, Ok, Err, Some, None}
use Rattle.base.specs.Lists.{some_of, count_if, below}
use Rattle.base.proofs.Laws.{apart}
use Rattle.calendar.specs.Calendar.{day_of}
use Rattle.std.specs.Prelude.{Option as Optional, Some, None}
use Rattle.timetable.specs.Delivery.{Files, Period, CategoryClass, Service, Delivery}
use Rattle.timetable.specs.Legs.{leg_count}
use Rattle.timetable.specs.Load.{delivered, loaded, written}
use Rattle.timetable.specs.Runs.{has_run, lateness}
use Rattle.timetable.specs.View.{View, view_of, service_by}
use Rattle.timetable.specs.Run.{Course, RunFound, no_run, at_rest, a_run, run_along, run_by, run_of, course_on, service_course}
use Rattle.timetable.specs.Questions.{dated_by, date_of}
use Rattle.timetable.specs.declared.Call.{Call}
use Rattle.timetable.specs.declared.Loaded.TheVariants.{Accepted}
use Rattle.timetable.specs.declared.refusal.Refusal.{Refusal}
use Rattle.timetable.specs.Refusals.{number_of}
use Rattle.timetable.specs.declared.refusal.Refusal.TheVariants.{NoSuchDate, OutsidePeriod, NoSuchService, NoSuchRun, PartsNotWhole, CallNotListed, NotBoardable, OtherStop, WaitTooShort}
use Rattle.whole_runs.specs.Classes.{OwnClass}
use Rattle.whole_runs.proofs.ClassLines.{counted-some}
use Rattle.whole_runs.proofs.Accepted.{asked-accepted}
use Rattle.whole_runs.proofs.Demand3.{demand3}
use Rattle.connections.specs.Connection.{Staged, bad_part, parts_of, whole_parts, row_call, boarding_allowed, alighting_allowed, stage_along, stage_between, stage_by, stage_dated, stage_of, change_time, change_to, changed_to, onward, parts_after, parts_hold, connection_in, no_connection, connection_asked}
use Rattle.connections.specs.Promise.{IsStage}
use Rattle.connections.specs.declared.Part.{Part}
use Rattle.connections.specs.declared.Stage.{Stage}
use Rattle.connections.proofs.Accepts.{stage_is, changed-is, why}
use Rattle.whole_connections.specs.Promise.{is_left}
use Rattle.whole_connections.proofs.Own.{part-asks, part-walks, stage-own}

abbrev Left : Refusal → Type 0
Left r = is_left (number_of r) ≡ true

-- a refusal by one of these numbers
is-left : (m n : Refusal) → Left m → m ≡ n → Left n
is-left m n h e = subst Left e h

date-left : (p : Period) (t : Optional ℕ) (r : Refusal) → dated_by p t ≡ Err r → Left r
unfolding is_left some_of
date-left p None r e =
    let z : ◌≡◌ {A = Refusal} NoSuchDate r = cc in
    subst (λ (x : Refusal). Left x) z refl
date-left p (Some k) r e = go (leb p.start k && ltb k (p.start + p.n)) e
  where
    go : (t : Bool) → cond t (Ok (k - p.start)) (Err OutsidePeriod) ≡ Err r → Left r
    go true e = apart (cc)
    go false e =
        let z : ◌≡◌ {A = Refusal} OutsidePeriod r = cc in
        subst (λ (x : Refusal). Left x) z refl

between_left : (s : Service) (late k : ℕ) (p : Part) (b a : Option Call) (n : Refusal) → stage_between s late k p b a ≡ Err n → Left n
unfolding is_left some_of
between_left s late k p none a n e = is-left CallNotListed n refl (cc)
between_left s late k p (some b) none n e = is-left CallNotListed n refl (cc)
between_left s late k p (some b) (some a) n e = go (ltb p.board p.alight && (boarding_allowed b && alighting_allowed a)) e
  where
    go : (t : Bool) → cond t (Ok (stage_along s late k p b a)) (Err NotBoardable) ≡ Err n → Left n
    go true e = apart (cc)
    go false e = is-left NotBoardable n refl (cc)

-- a class is listed
class-listed : (f : Files) (code : ℕ) → OwnClass f code → (view_of (delivered f)).listed code ≡ true
class-listed f code c = counted-some (λ (x : CategoryClass). eqb x.code code) (delivered f).classes (omega (arith, c.once))

module _ (f : Files) (t : List ℕ) (helper u : ℕ) (e : loaded f (length t) helper ≡ Accepted u) where
  abbrev d : Delivery
  d = delivered f

  abbrev v : View
  v = view_of (delivered f)

  -- ---- a part

  module _ (p : Part) (n : Refusal) where
    course-left : (k : ℕ) (s : Service) (r : Refusal) → date_of v p.day p.month p.year ≡ Ok k → get_elem? d.services p.service ≡ some s → run_of v p.service p.repeat k ≡ no_run r → service_course v s p.repeat k ≡ Err r → Left r
    unfolding service_course is_left some_of
    course-left k s r on there is = go (not (has_run s.opening p.repeat)) refl
      where
        go : (t : Bool) → not (has_run s.opening p.repeat) ≡ t → cond t (Err NoSuchRun) (course_on v s k) ≡ Err r → Left r
        go true q h = let z : ◌≡◌ {A = Refusal} NoSuchRun r = cc in is-left NoSuchRun r refl z
        go false q h =
            let (day, a, at) = part-asks f t helper u e p k s on there (not-false (has_run s.opening p.repeat) q) in
            absurd ((demand3 f t helper u e p.service p.repeat p.day p.month p.year day s a).never_refused r (part-walks f t helper u e p k (no_run r) on is))

    run-left : (k : ℕ) (r : Refusal) → date_of v p.day p.month p.year ≡ Ok k → run_of v p.service p.repeat k ≡ no_run r → Left r
    unfolding run_of is_left some_of
    run-left k r on is = found (get_elem? d.services p.service) refl is
      where
        along : (s : Service) → get_elem? d.services p.service ≡ some s → (c : Course) → service_course v s p.repeat k ≡ c → run_along s (lateness s.opening p.repeat) c ≡ no_run r → Left r
        along s there (Err refusal) q h = let z : refusal ≡ r = cc in course-left k s r on there is (q ∙ rw z refl)
        along s there (Ok None) q h = apart (cc)
        along s there (Ok (Some x)) q h = apart (cc)

        found : (o : Option Service) → get_elem? d.services p.service ≡ o → run_by v (service_by o) p.repeat k ≡ no_run r → Left r
        found none there h = let z : ◌≡◌ {A = Refusal} NoSuchService r = cc in is-left NoSuchService r refl z
        found (some s) there h = along s there (service_course v s p.repeat k) refl h

    by-run : (k : ℕ) (x : RunFound) → date_of v p.day p.month p.year ≡ Ok k → run_of v p.service p.repeat k ≡ x → stage_by k p x ≡ Err n → Left n
    unfolding is_left some_of
    by-run k (no_run r) on is h = let z : r ≡ n = cc in subst Left z (run-left k r on is)
    by-run k at_rest on is h = is-left CallNotListed n refl (cc)
    by-run k (a_run x) on is h = between_left x.service x.late k p (row_call x p.board) (row_call x p.alight) n h

    by-date : (x : Result ℕ Refusal) → date_of v p.day p.month p.year ≡ x → stage_dated v p x ≡ Err n → Left n
    by-date (Err refusal) on h = let z : refusal ≡ n = cc in is-left refusal n (date-left d.period (day_of p.day p.month p.year) refusal on) z
    by-date (Ok k) on h = by-run k (run_of v p.service p.repeat k) on refl h

    stage-left : stage_of v p ≡ Err n → Left n
    unfolding stage_of
    stage-left h = by-date (date_of v p.day p.month p.year) refl h

  -- ---- a change: both categories are listed

  change-left : (p q : Part) (s t' : Stage) (n : Refusal) → IsStage v p s → IsStage v q t' → change_to v s t' ≡ Err n → Left n
  unfolding change_to is_left some_of
  change-left p q s t' n i j h = stop (eqb s.to t'.from) (rw (class-listed f s.arriving (stage-own f t helper u e p s i).arriving_class, class-listed f t'.departing (stage-own f t helper u e q t' j).departing_class) at h)
    where
      wait : (b : Bool) → cond b (Ok t') (Err WaitTooShort) ≡ Err n → Left n
      wait true h = apart (cc)
      wait false h = is-left WaitTooShort n refl (cc)

      stop : (b : Bool) → cond b (cond (leb (s.arrives + change_time v s t') t'.departs) (Ok t') (Err WaitTooShort)) (Err OtherStop) ≡ Err n → Left n
      stop true h = wait (leb (s.arrives + change_time v s t') t'.departs) h
      stop false h = is-left OtherStop n refl (cc)

  changed-left : (p q : Part) (s : Stage) (n : Refusal) → IsStage v p s → (x : Staged) → stage_of v q ≡ x → changed_to v s x ≡ Err n → Left n
  changed-left p q s n i (Err refusal) g h = let z : refusal ≡ n = cc in stage-left q n (g ∙ rw z refl)
  changed-left p q s n i (Ok t') g h = change-left p q s t' n i (stage_is v q t' g) h

  -- ---- the parts

  after-left : (p : Part) (s : Stage) (m : ℕ) (n : Refusal) (r : ℕ) (ps : List Part) → IsStage v p s → parts_after v s m ps ≡ bad_part n r → Left n
  unfolding parts_after
  after-left p s m n r [] i h = apart (cc)
  after-left p s m n r (q ∷ ps) i h = go (λ t'. after-left q t' (m + 1) n r ps) (changed_to v s (stage_of v q)) refl h
    where
      go : ((t' : Stage) → IsStage v q t' → parts_after v t' (m + 1) ps ≡ bad_part n r → Left n) → (x : Staged) → changed_to v s (stage_of v q) ≡ x → onward m x (λ (t' : Stage). parts_after v t' (m + 1) ps) ≡ bad_part n r → Left n
      go on (Err refusal) g h = let z : refusal ≡ n = ap why h in changed-left p q s n i (stage_of v q) refl (g ∙ rw z refl)
      go on (Ok t') g h = on t' (changed-is v s t' q g).0 h

  parts-left : (n : Refusal) (r : ℕ) (ps : List Part) → parts_hold v ps ≡ bad_part n r → Left n
  parts-left n r [] h = apart (cc)
  parts-left n r (p ∷ ps) h = go (stage_of v p) refl h
    where
      go : (x : Staged) → stage_of v p ≡ x → onward 1 x (λ (s : Stage). parts_after v s 2 ps) ≡ bad_part n r → Left n
      go (Err refusal) g h = let z : refusal ≡ n = ap why h in stage-left p n (g ∙ rw z refl)
      go (Ok s) g h = after-left p s 2 n r ps (stage_is v p s g) h

  -- whatever is proposed
  pub only-left : (ws : List ℕ) (n : Refusal) (r : ℕ) → connection_asked (written f t helper) ws ≡ bad_part n r → is_left (number_of n) ≡ true
  unfolding connection_asked connection_in is_left some_of
  only-left ws n r h = go (whole_parts (length ws)) (sym (asked-accepted no_connection (λ (v : View). connection_in v ws) f t helper u e) ∙ h)
    where
      go : (b : Bool) → cond b (parts_hold v (parts_of ws)) (bad_part PartsNotWhole 0) ≡ bad_part n r → Left n
      go true h = parts-left n r (parts_of ws) h
      go false h = is-left PartsNotWhole n refl (ap why h)
