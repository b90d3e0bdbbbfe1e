-- Range ends stay below the number of calls, so the legs of a range, where its ends are found, are within what a table allows. Assumes nothing.
use mathlib.Core.Path.{◌≡◌, refl}
use mathlib.Core.List.{List, [], ◌∷◌}
use mathlib.Core.Bool.{Bool, true, false, cond}
use mathlib.Core.Option.{Option, none, some}
use Prim.Native.Nat.{ℕ, zero, suc, ◌+◌, ◌-◌, ◌<◌, ◌≤◌}
use native.Mathlib.Omega.{arith}
use lib.ListN.{length, get_elem?}
use borrow.Author.Tests.{lt-ltb}
use Rattle.base.specs.Lists.{All, nil, cons}
use Rattle.base.proofs.Laws.{by-ltb}
use Rattle.fields.specs.declared.RouteIndex.{RouteIndex}
use Rattle.fields.specs.declared.StopNumber.{StopNumber}
use Rattle.fields.specs.declared.RangeEnd.{RangeEnd}
use Rattle.fields.specs.declared.RangeEnd.TheVariants.{Outer, Index, Stop, NoEnd}
use Rattle.fields.specs.declared.Detail.{Detail}
use Rattle.fields.specs.declared.Detail.TheVariants.{Plain, Nth, Timed, NoDetail}
use Rattle.timetable.specs.Delivery.{Legs}
use Rattle.timetable.specs.Ranges.{places, last_place, on_route, to_stop, to_by, to_place, from_place, in_order, legs_by, legs_of}
use Rattle.timetable.specs.Service.{with_legs}
use Rattle.timetable.specs.Table.{legs_sound}
use Rattle.timetable.specs.declared.Call.{Call}
use Rattle.timetable.specs.declared.End.{End}
use Rattle.timetable.specs.declared.Ends.{Ends}

-- ---- places on a route of n calls

unfoldable Below : ℕ → Option ℕ → Type 0
Below n none = Unit {0}
Below n (some k) = k < n

places-below : (t : Call → Bool) (k : ℕ) (cs : List Call) (n : ℕ) → k + length cs ≤ n → All (λ p. p < n) (places t k cs)
unfolding places
places-below t k [] n h = nil
places-below t k (c ∷ cs) n h = go (t c) (places-below t (k + 1) cs n (omega arith))
  where
    go : (b : Bool) → All (λ p. p < n) (places t (k + 1) cs) → All (λ p. p < n) (cond b (k ∷ places t (k + 1) cs) (places t (k + 1) cs))
    go true q = cons {x = k} (omega arith) q
    go false q = q

module _ (n : ℕ) where
  last-below : {ps : List ℕ} → All (λ p. p < n) ps → Below n (last_place ps)
  unfolding Below last_place
  last-below nil = tt
  last-below (cons h nil) = h
  last-below (cons h (cons i t)) = last-below (cons i t)

  elem_below : (k : ℕ) {ps : List ℕ} → All (λ p. p < n) ps → Below n (get_elem? ps k)
  unfolding Below
  elem_below zero nil = tt
  elem_below (suc k) nil = tt
  elem_below zero (cons h t) = h
  elem_below (suc k) (cons h t) = elem_below k t

module _ (cs : List Call) where
  within-below : (k : RouteIndex) → Below (length cs) (on_route cs k)
  unfolding Below
  within-below k = by-ltb (λ t. Below (length cs) (cond t (some k.0) none)) k.0 (length cs) (λ h. h) (λ h. tt)

  stop-below : (n : StopNumber) (d : Detail) → Below (length cs) (to_stop cs n d)
  unfolding Below
  stop-below n Plain = last-below (length cs) (places-below _ 0 cs (length cs) (omega arith))
  stop-below n (Nth k) = elem_below (length cs) k.0 (places-below _ 0 cs (length cs) (omega arith))
  stop-below n (Timed m) = last-below (length cs) (places-below _ 0 cs (length cs) (omega arith))
  stop-below n NoDetail = tt

  end_below : (p : RangeEnd) (d : Detail) → Below (length cs) (to_by cs p d)
  unfolding Below
  end_below Outer d = within-below (record { 0 = length cs - 1 })
  end_below (Index k) d = within-below k
  end_below (Stop n) d = stop-below n d
  end_below NoEnd d = tt

  to_below : (e : End) → Below (length cs) (to_place cs e)
  unfolding to_place
  to_below e = end_below e.place e.detail

-- the legs of a range, where its ends are found
unfoldable pub LegsSound : Bool → ℕ → Option Legs → Type 0
LegsSound loose n none = Unit {0}
LegsSound loose n (some g) = legs_sound loose n g ≡ true

legs-by : (loose : Bool) (n : ℕ) (f t : Option ℕ) → Below n t → LegsSound loose n (legs_by loose f t)
unfolding LegsSound Below
legs-by loose n none t h = tt
legs-by loose n (some f) none h = tt
legs-by loose n (some f) (some t) h = go (in_order loose f t) refl
  where
    go : (b : Bool) → in_order loose f t ≡ b → LegsSound loose n (cond b (some (record { from = f; to = t })) none)
    go true q = rw (q, lt-ltb t n h)
    go false q = tt

module _ (loose : Bool) (cs : List Call) where
  pub legs-sound : (e : Ends) → LegsSound loose (length cs) (legs_of loose cs e)
  unfolding legs_of
  legs-sound e = legs-by loose (length cs) (from_place cs e.from) (to_place cs e.to) (to_below cs e.to)

  pub with-sound : {X : Type 0} (f : Legs → X) (get : X → Legs) → ((g : Legs) → get (f g) ≡ g) → (o : Option Legs) → LegsSound loose (length cs) o → All (λ x. legs_sound loose (length cs) (get x) ≡ true) (with_legs f o)
  unfolding LegsSound
  with-sound f get b none h = nil
  with-sound f get b (some g) h = cons {x = f g} (rw (b g) h) nil
