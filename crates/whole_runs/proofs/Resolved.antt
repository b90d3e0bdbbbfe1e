-- A walk of a service without an offence meets no number that it cannot resolve: 34 and 31 do not occur at its legs, 36 and 33 not at its calls.
-- Assumes nothing.
use mathlib.Core.Path.{◌≡◌, refl}
use mathlib.Core.List.{List, [], ◌∷◌}
use mathlib.Core.Bool.{Bool, true, false, not, ◌&&◌, ◌||◌}
use mathlib.Core.Option.{Option, none, some}
use Prim.Native.Nat.{ℕ, zero, suc, ◌+◌, ◌<◌, ◌≤◌}
use native.Mathlib.Omega.{arith}
use lib.ListN.{length, take, drop}
use lib.Dec.{ltb, eqb}
use borrow.Author.Tests.{ltb-true, eqb-false, eq-eqb, ne_eqb}
use Rattle.base.specs.Lists.{every, upto, below}
use Rattle.base.proofs.Laws.{apart, clash}
use Rattle.timetable.specs.Delivery.{CategoryRange, DayRange, Service, Delivery}
use Rattle.timetable.specs.Offences.{◌<|>◌}
use Rattle.timetable.specs.Ranges.{has_arrival, has_departure}
use Rattle.timetable.specs.Legs.{field_known, covers, covering, leg_count}
use Rattle.timetable.specs.Checks.{times_stated, times_rise, last_stated}
use Rattle.timetable.specs.View.{view_of}
use Rattle.timetable.specs.declared.refusal.Refusal.{Refusal}
use Rattle.timetable.specs.declared.refusal.Refusal.TheVariants.{LegFieldUnknown, LegCategoryNotOnce, LegDaysNotOnce, TimeNeeded}
use Rattle.timetable.specs.Run.{refuse, leg_refusal, first_refusal, times_needed, needed_last, call_refusal, calls_refusal}
use Rattle.timetable.specs.declared.Call.{Call}
use Rattle.whole_runs.proofs.Lists.{or-second, all-to, every-all}
use Rattle.whole_runs.proofs.Lines.{FieldKnown}
use Rattle.whole_runs.proofs.Right.{Right, Timely}
use Rattle.whole_runs.proofs.Times.{needed-law, last-law, arrives, departs, timely-drop}

-- ---- no refusal

-- not refused, since what is asked holds
granted : (t : Bool) (refusal : Refusal) → t ≡ true → refuse (not t) refusal ≡ none
granted true refusal e = refl
granted false refusal e = clash e

both-none : (a b : Option Refusal) → a ≡ none → b ≡ none → (a <|> b) ≡ none
unfolding ◌<|>◌
both-none none b p q = q
both-none (some x) b p q = apart (cc)

no-refusal : (f : ℕ → Option Refusal) (n k : ℕ) → ((j : ℕ) → k ≤ j → j < k + n → f j ≡ none) → first_refusal f (upto n k) ≡ none
unfolding first_refusal upto
no-refusal f zero k h = refl
no-refusal f (suc n) k h = both-none (f k) (first_refusal f (upto n (k + 1))) (h k (omega arith) (omega arith)) (no-refusal f n (k + 1) (λ j p q. h j (omega arith) (omega arith)))

-- ---- 34 and 31

pub legs-resolved : (d : Delivery) (s : Service) → Right d s → first_refusal (leg_refusal (view_of d) s) (below (leg_count s)) ≡ none
legs-resolved d s h = no-refusal (leg_refusal (view_of d) s) (leg_count s) 0 leg
  where
    known : ℕ → DayRange → Bool
    known j r = not (covers j r.legs) || field_known r.field d.fields

    leg : (j : ℕ) → 0 ≤ j → j < 0 + leg_count s → leg_refusal (view_of d) s j ≡ none
    leg j p q =
        both-none (refuse (not (eqb (covering (λ (r : DayRange). r.legs) s.days j) 1)) LegDaysNotOnce) (refuse (not (every (known j) s.days)) LegFieldUnknown)
        (granted (eqb (covering (λ (r : DayRange). r.legs) s.days j) 1) LegDaysNotOnce (eq-eqb (covering (λ (r : DayRange). r.legs) s.days j) 1 (h.days j (omega arith))))
        (granted (every (known j) s.days) LegFieldUnknown (every-all (known j) (all-to (λ (r : DayRange). FieldKnown d r.field) (λ (r : DayRange). known j r ≡ true) (λ r k. or-second (not (covers j r.legs)) (field_known r.field d.fields) k) s.days h.fields)))

-- ---- 36 and 33, in a stretch of n legs from call a on

module _ (d : Delivery) (s : Service) (h : Right d s) (a n : ℕ) (inside : a + n < length s.calls) where
  -- the i-th call of the stretch, w and b being the times before it by the walk's rule and by the loader's
  call-resolved : (i w b : ℕ) (c : Call) → i ≤ n → w ≤ b → times_stated (length s.calls) (a + i) c ≡ true → times_rise b c ≡ true → call_refusal s a n i w c ≡ none
  unfolding call_refusal
  call-resolved i w b c l m t u =
      both-none (refuse (not (times_needed n i w c)) TimeNeeded) (refuse (ltb i n && not once) LegCategoryNotOnce)
      (granted (times_needed n i w c) TimeNeeded needed)
      (leaving (ltb i n) refl)
    where
      once : Bool
      once = eqb (covering (λ (r : CategoryRange). r.legs) s.categories (a + i)) 1

      needed : times_needed n i w c ≡ true
      needed =
          needed-law b c.arrival c.departure (eqb i 0) (eqb i n) (has_arrival c) (has_departure c) w
          (λ q. let z = eqb-false i 0 q in arrives (length s.calls) (a + i) c t (omega (arith, z)))
          (λ q. let z = eqb-false i n q in departs (length s.calls) (a + i) c t (omega (arith, z)))
          m u

      leaving : (x : Bool) → ltb i n ≡ x → refuse (x && not once) LegCategoryNotOnce ≡ none
      leaving false q = refl
      leaving true q = let z = ltb-true i n q in granted once LegCategoryNotOnce (eq-eqb (covering (λ (r : CategoryRange). r.legs) s.categories (a + i)) 1 (h.categories (a + i) (omega arith)))

  calls-resolved : (m i w b : ℕ) (cs : List Call) → i + m ≡ n → w ≤ b → Timely (length s.calls) (a + i) b cs → calls_refusal s a n i w (take (suc m) cs) ≡ none
  unfolding calls_refusal Timely
  calls-resolved m i w b [] e l t = refl
  calls-resolved zero i w b (c ∷ cs) e l t =
      both-none (call_refusal s a n i w c) none (call-resolved i w b c (omega arith) l t.0 t.1) refl
  calls-resolved (suc m) i w b (c ∷ cs) e l t =
      let z : a + (i + 1) ≡ a + i + 1 = omega arith in
      let dep = departs (length s.calls) (a + i) c t.0 (omega arith) in
      both-none (call_refusal s a n i w c) (calls_refusal s a n (i + 1) (needed_last n i c) (take (suc m) cs))
      (call-resolved i w b c (omega arith) l t.0 t.1)
      (calls-resolved m (i + 1) (needed_last n i c) (last_stated b c) cs (omega arith)
      (last-law b c.arrival c.departure (eqb i n) (has_arrival c) (has_departure c) (ne_eqb i n (λ q. omega arith)) dep)
      (rw z t.2))

  pub stretch-resolved : calls_refusal s a n 0 0 (take (n + 1) (drop a s.calls)) ≡ none
  stretch-resolved =
      let m = timely-drop (length s.calls) 0 0 a s.calls h.times in
      let z : n + 1 ≡ suc n = omega arith in
      let y : 0 + a ≡ a + 0 = omega arith in
      rw z (calls-resolved n 0 0 m.0 (drop a s.calls) (omega arith) (omega arith) (rw y at m.1))
