-- The times of a service without an offence: where the route needs them they are stated, they never fall, and the walk's own rule for a stretch (36)
-- follows from the loader's rule for the whole route (15). Assumes nothing.
use mathlib.Core.Path.{◌≡◌, refl, sym, subst}
use mathlib.Core.List.{List, [], ◌∷◌}
use mathlib.Core.Bool.{Bool, true, false, cond, not, ◌&&◌, ◌||◌}
use Prim.Native.Nat.{ℕ, zero, suc, ◌+◌, ◌<◌, ◌≤◌}
use native.Mathlib.Omega.{arith}
use lib.ListN.{length, get_or, drop}
use lib.Seq.{drop-cons}
use lib.Dec.{leb, eqb}
use borrow.Author.Tests.{le-leb, leb-true, ne_eqb}
use Rattle.base.proofs.Laws.{clash}
use Rattle.base.proofs.Loops.{and-true}
use Rattle.timetable.specs.Ranges.{has_arrival, has_departure}
use Rattle.timetable.specs.Checks.{times_stated, times_rise, last_stated}
use Rattle.timetable.specs.declared.Call.{Call}
use Rattle.whole_runs.specs.Rows.{no_call}
use Rattle.whole_runs.proofs.Lists.{or-other}
use Rattle.whole_runs.proofs.Right.{Timely}

-- ---- one call: ha, hd say whether its arrival and departure are stated, b is the time stated before

abbrev Rise : Bool → Bool → ℕ → ℕ → ℕ → Type 0
Rise ha hd b arr dep = (not ha || leb b arr) && (not hd || leb (cond ha arr b) dep) ≡ true

module _ (b arr dep : ℕ) where
  rise-arrival : (hd : Bool) → Rise true hd b arr dep → b ≤ arr
  rise-arrival hd e = leb-true b arr (and-true (leb b arr) (not hd || leb arr dep) e).0

  rise-both : Rise true true b arr dep → arr ≤ dep
  rise-both e = leb-true arr dep (and-true (leb b arr) (leb arr dep) e).1

  rise-departure : (ha : Bool) → Rise ha true b arr dep → b ≤ dep
  rise-departure true e = let p = rise-arrival true e in let q = rise-both e in omega arith
  rise-departure false e = leb-true b dep e

  -- the rule of 36, at the first call (s) or the last (t) of a stretch or between: the walk's time before, w, is not above the loader's
  pub needed-law : (s t ha hd : Bool) (w : ℕ) → (s ≡ false → ha ≡ true) → (t ≡ false → hd ≡ true) → w ≤ b → Rise ha hd b arr dep
      → (s || (ha && leb w arr)) && (t || (hd && leb (cond s w arr) dep)) ≡ true
  needed-law true true ha hd w f g l e = refl
  needed-law true false ha false w f g l e = clash (g refl)
  needed-law true false ha true w f g l e = let p = rise-departure ha e in le-leb w dep (omega arith)
  needed-law false t false hd w f g l e = clash (f refl)
  needed-law false true true hd w f g l e = let p = rise-arrival hd e in rw (le-leb w arr (omega arith))
  needed-law false false true false w f g l e = clash (g refl)
  needed-law false false true true w f g l e = let p = rise-arrival true e in rw (le-leb w arr (omega arith), le-leb arr dep (rise-both e))

  -- and it stays so: the time that the walk goes on with is not above the one that the loader does
  pub last-law : (t ha hd : Bool) → t ≡ false → hd ≡ true → cond t arr dep ≤ cond hd dep (cond ha arr b)
  last-law false ha true p q = omega arith
  last-law false ha false p q = clash q
  last-law true ha hd p q = clash (sym p)

  halt-law : (ha hd : Bool) → ha ≡ true → hd ≡ true → Rise ha hd b arr dep → arr ≤ dep
  halt-law true true p q e = rise-both e
  halt-law true false p q e = clash q
  halt-law false hd p q e = clash p

  forward-law : (ha hd ha' hd' : Bool) (arr' dep' : ℕ) → hd ≡ true → ha' ≡ true → Rise ha' hd' (cond hd dep (cond ha arr b)) arr' dep' → dep ≤ arr'
  forward-law ha true true hd' arr' dep' p q e = leb-true dep arr' (and-true (leb dep arr') (not hd' || leb arr' dep') e).0
  forward-law ha true false hd' arr' dep' p q e = clash q
  forward-law ha false ha' hd' arr' dep' p q e = clash p

module _ (n i : ℕ) (c : Call) (e : times_stated n i c ≡ true) where
  pub arrives : 1 ≤ i → has_arrival c ≡ true
  arrives h = or-other (eqb i 0) (has_arrival c) (ne_eqb i 0 (λ q. omega arith)) (and-true (eqb i 0 || has_arrival c) (eqb (i + 1) n || has_departure c) e).0

  pub departs : i + 1 < n → has_departure c ≡ true
  departs h = or-other (eqb (i + 1) n) (has_departure c) (ne_eqb (i + 1) n (λ q. omega arith)) (and-true (eqb i 0 || has_arrival c) (eqb (i + 1) n || has_departure c) e).1

-- ---- along the route

-- the calls from the k-th on, after some stated time
pub timely-drop : (n i b k : ℕ) (cs : List Call) → Timely n i b cs → (b' : ℕ) × Timely n (i + k) b' (drop k cs)
unfolding Timely
timely-drop n i b zero cs h = let z : i + zero ≡ i = omega arith in (b, rw z h)
timely-drop n i b (suc k) [] h = (b, tt)
timely-drop n i b (suc k) (c ∷ cs) h = let m = timely-drop n (i + 1) (last_stated b c) k cs h.2 in let z : i + suc k ≡ i + 1 + k = omega arith in (m.0, rw z m.1)

timely-tail : (n i b : ℕ) (c : Call) (cs : List Call) → Timely n i b (c ∷ cs) → Timely n (i + 1) (last_stated b c) cs
unfolding Timely
timely-tail n i b c cs h = h.2

timely-head : (n i b : ℕ) (c : Call) (cs : List Call) → Timely n i b (c ∷ cs) → (times_stated n i c ≡ true) × (times_rise b c ≡ true)
unfolding Timely
timely-head n i b c cs h = (h.0, h.1)

-- a call's times are stated where the route needs them, and do not fall
pub record Called (cs : List Call) (p : ℕ) : Type 0 where
  pub arrival : 1 ≤ p → has_arrival (get_or cs p no_call) ≡ true
  pub departure : p + 1 < length cs → has_departure (get_or cs p no_call) ≡ true
  pub halt : 1 ≤ p → p + 1 < length cs → (get_or cs p no_call).arrival ≤ (get_or cs p no_call).departure
  pub forward : p + 1 < length cs → (get_or cs p no_call).departure ≤ (get_or cs (p + 1) no_call).arrival

pub called : (cs : List Call) → Timely (length cs) 0 0 cs → (p : ℕ) → p < length cs → Called cs p
called cs h p l =
    let n = length cs in
    let c = get_or cs p no_call in
    let m = timely-drop n 0 0 p cs h in
    let b = m.0 in
    let t : Timely n (0 + p) b (c ∷ drop (suc p) cs) = subst (Timely n (0 + p) b) (drop-cons cs p no_call l) m.1 in
    let k = timely-head n (0 + p) b c (drop (suc p) cs) t in
    record {
      arrival = λ o. arrives n (0 + p) c k.0 (omega arith);
      departure = λ o. departs n (0 + p) c k.0 (omega arith);
      halt = λ o q. halt-law b c.arrival c.departure (has_arrival c) (has_departure c) (arrives n (0 + p) c k.0 (omega arith)) (departs n (0 + p) c k.0 (omega arith)) k.1;
      forward = λ o.
          let z : p + 1 ≡ suc p = omega arith in
          let c' = get_or cs (suc p) no_call in
          let v : Timely n (0 + p + 1) (last_stated b c) (c' ∷ drop (suc (suc p)) cs) = subst (Timely n (0 + p + 1) (last_stated b c)) (drop-cons cs (suc p) no_call (omega arith)) (timely-tail n (0 + p) b c (drop (suc p) cs) t) in
          let w = timely-head n (0 + p + 1) (last_stated b c) c' (drop (suc (suc p)) cs) v in
          rw z (forward-law b c.arrival c.departure (has_arrival c) (has_departure c) (has_arrival c') (has_departure c') c'.arrival c'.departure (departs n (0 + p) c k.0 (omega arith)) (arrives n (0 + p + 1) c' w.0 (omega arith)) w.1);
    }
