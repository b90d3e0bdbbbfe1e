-- The stretch that a course goes along is the one of the day's legs, and there is only one. Assumes nothing.
use mathlib.Core.Path.{◌≡◌, refl, sym, ap, ◌∙◌, subst}
use mathlib.Core.List.{List}
use mathlib.Core.Bool.{Bool, true, false, cond, not}
use mathlib.Core.Option.{Option, none, some}
use Prim.Native.Nat.{ℕ, ◌+◌, ◌<◌, ◌≤◌}
use native.Mathlib.Omega.{arith}
use lib.ListN.{drop}
use lib.Dec.{leb, eqb}
use borrow.Author.Tests.{leb-false, eqb-false, not-false}
use Rattle.std.specs.Prelude.{Ok, Err, Some, None}
use Rattle.base.specs.Lists.{below}
use Rattle.base.proofs.Laws.{apart, clash, by-leb}
use Rattle.timetable.specs.declared.refusal.Refusal.{Refusal}
use Rattle.timetable.specs.declared.refusal.Refusal.TheVariants.{NoSuchRun, TwoStretches}
use Rattle.timetable.specs.Delivery.{Service, Delivery}
use Rattle.timetable.specs.Legs.{operated, stretches, leg_count, operated_legs}
use Rattle.timetable.specs.Runs.{has_run}
use Rattle.timetable.specs.View.{View, view_of}
use Rattle.timetable.specs.Run.{Course, runs_along, not_running, leg_refusal, first_refusal, idle_legs, leading_legs, stretch_of, stretch_calls, calls_refusal, course_by, stretch_course, legs_course, day_course, course_on, service_course}
use Rattle.timetable.specs.declared.Along.{Along}
use Rattle.whole_runs.specs.Rows.{Unbroken}
use Rattle.whole_runs.proofs.Stretch.{Only, one-stretch}
use Rattle.whole_runs.proofs.Rows.{one-unbroken}

-- ---- one stretch

module _ (d : Delivery) (s : Service) (k : ℕ) where
  not-later : (a n b m : ℕ) → Unbroken d s k a n → Unbroken d s k b m → a ≤ b
  not-later a n b m u v =
      by-leb (λ t. a ≤ b) a b (λ h. h)
      (λ h. clash (sym (u.not_before b h) ∙ v.operates b (omega arith) (omega (arith, v.some_leg))))

  not-longer : (a n m : ℕ) → Unbroken d s k a n → Unbroken d s k a m → n ≤ m
  not-longer a n m u v =
      by-leb (λ t. n ≤ m) n m (λ h. h)
      (λ h. clash (sym (v.not_after (a + m) (omega arith) (omega (arith, u.inside))) ∙ u.operates (a + m) (omega arith) (omega arith)))

  pub one-start : (a n b m : ℕ) → Unbroken d s k a n → Unbroken d s k b m → (a ≡ b) × (n ≡ m)
  one-start a n b m u v =
      let e : a ≡ b = omega (arith, not-later a n b m u v, not-later b m a n v u) in
      let w : Unbroken d s k a m = subst (λ (c : ℕ). Unbroken d s k c m) (sym e) v in
      (e, omega (arith, not-longer a n m u w, not-longer a m n w u))

-- ---- along it

course-goes : (o : Option Refusal) (c : Course) (a n : ℕ) → course_by o c ≡ runs_along a n → c ≡ runs_along a n
course-goes none c a n e = e
course-goes (some refusal) c a n e = apart (cc)

module _ (d : Delivery) (s : Service) (r k a n : ℕ) where
  legs-along : legs_course s (operated_legs d.fields s k) ≡ runs_along a n → Unbroken d s k a n
  unfolding stretch_course
  legs-along = go (eqb (stretches false bs) 0) refl
    where
      bs : List Bool
      bs = operated_legs d.fields s k

      two : (t : Bool) → leb 2 (stretches false bs) ≡ t → eqb (stretches false bs) 0 ≡ false → cond t (Err TwoStretches) (stretch_course s (stretch_of bs).start (stretch_of bs).legs) ≡ runs_along a n → Unbroken d s k a n
      two true q z e = apart (cc)
      two false q z e =
          let l = leb-false 2 (stretches false bs) q in
          let y = eqb-false (stretches false bs) 0 z in
          let one = one-stretch bs (omega (arith, y)) in
          let g : runs_along (idle_legs bs) (leading_legs (drop (idle_legs bs) bs)) ≡ runs_along a n = course-goes (calls_refusal s (stretch_of bs).start (stretch_of bs).legs 0 0 (stretch_calls s (stretch_of bs))) _ a n e in
          let h : ◌≡◌ {A = Along} (record { start = idle_legs bs; legs = leading_legs (drop (idle_legs bs) bs) }) (record { start = a; legs = n }) = cc in
          let p : idle_legs bs ≡ a = ap (λ (x : Along). x.start) h in
          let m : leading_legs (drop (idle_legs bs) bs) ≡ n = ap (λ (x : Along). x.legs) h in
          subst (λ (i : ℕ). Unbroken d s k a i) m (subst (λ (i : ℕ). Unbroken d s k i (leading_legs (drop (idle_legs bs) bs))) p (one-unbroken d s r k (idle_legs bs) (leading_legs (drop (idle_legs bs) bs)) one))

      go : (t : Bool) → eqb (stretches false bs) 0 ≡ t → cond t not_running (cond (leb 2 (stretches false bs)) (Err TwoStretches) (stretch_course s (stretch_of bs).start (stretch_of bs).legs)) ≡ runs_along a n → Unbroken d s k a n
      go true q e = apart (cc)
      go false q e = two (leb 2 (stretches false bs)) refl q e

  pub course-along : service_course (view_of d) s r k ≡ runs_along a n → (has_run s.opening r ≡ true) × Unbroken d s k a n
  unfolding service_course course_on day_course
  course-along = go (not (has_run s.opening r)) refl
    where
      go : (t : Bool) → not (has_run s.opening r) ≡ t → cond t (Err NoSuchRun) (course_by (first_refusal (leg_refusal (view_of d) s) (below (leg_count s))) (legs_course s (operated_legs d.fields s k))) ≡ runs_along a n → (has_run s.opening r ≡ true) × Unbroken d s k a n
      go true q e = apart (cc)
      go false q e = (not-false (has_run s.opening r) q, legs-along (course-goes (first_refusal (leg_refusal (view_of d) s) (below (leg_count s))) _ a n e))
