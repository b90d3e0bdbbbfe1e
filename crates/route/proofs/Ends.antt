-- The ends of a range, one and both, found or not and in order or not: the needs of `end_place`, `legs_of` and `legs_on`. Assumes nothing.
use mathlib.Core.Path.{◌≡◌, refl, sym, ap, ◌∙◌}
use mathlib.Core.List.{List}
use mathlib.Core.Bool.{Bool, true, false}
use mathlib.Core.Option.{Option as Maybe, none, some}
use Rattle.std.specs.Prelude.{◌-◌, cond, length, ltb, Option, Some, None}
use Rattle.std.proofs.Math.ListN.{get_elem?}
use Prim.Native.Nat.{ℕ}
use Rattle.base.proofs.Laws.{tests}
use Rattle.fields.specs.declared.Appearance.{Appearance}
use Rattle.fields.specs.declared.Detail.{Detail}
use Rattle.fields.specs.declared.Detail.TheVariants.{Plain, Nth, Timed}
use Rattle.fields.specs.declared.RangeEnd.TheVariants.{Outer, Index, Stop, NoEnd}
use Rattle.fields.specs.declared.RouteIndex.{RouteIndex}
use Rattle.fields.specs.declared.StopNumber.{StopNumber}
use Rattle.timetable.specs.Ranges.{places, calls_at, first_place, last_place, from_place, to_place, in_order, legs_by, legs_of}
use Rattle.timetable.specs.Service.{loose as loose_part, legs_on}
use Rattle.timetable.specs.declared.Call.{Call}
use Rattle.timetable.specs.declared.End.{End}
use Rattle.timetable.specs.declared.Ends.{Ends}
use Rattle.timetable.specs.declared.RangeLine.{RangeLine}
use Rattle.route.specs.Inner.Route.{meets, route_place, found_of, stop_place, end_place}
use Rattle.route.specs.declared.Sought.{Sought}
use Rattle.route.specs.declared.Sought.TheVariants.{Calling, Departing, Arriving}
use Rattle.route.proofs.Laws.{length-calls}

-- ---- one end, for `search ends`: the last one, or the first; r is what the code says

module _ (cs : List Call) (n : StopNumber) (d : Detail) (r : Option RouteIndex) where
  pub stop-plain : (last : Bool) → d ≡ Plain → r ≡ route_place (cond last last_place first_place (places (meets (Calling n)) 0 cs)) → r ≡ route_place (stop_place last cs n d)
  stop-plain true e k = rw e k
  stop-plain false e k = rw e k

  pub stop-nth : (last : Bool) (k : Appearance) → d ≡ Nth k → r ≡ route_place (get_elem? (places (calls_at n) 0 cs) k.0) → r ≡ route_place (stop_place last cs n d)
  stop-nth true k e h = rw e h
  stop-nth false k e h = rw e h

  pub stop-timed : (last : Bool) (m : ℕ) (s : Sought) → d ≡ Timed m → s ≡ cond last (Arriving n m) (Departing n m)
      → r ≡ route_place (cond last last_place first_place (places (meets s) 0 cs)) → r ≡ route_place (stop_place last cs n d)
  stop-timed true m s e k h = rw e (rw k at h)
  stop-timed false m s e k h = rw e (rw k at h)

module _ (cs : List Call) (e : End) (r : Option RouteIndex) where
  pub end-outer : (last : Bool) (c : ℕ) → length cs ≡ c → e.place ≡ Outer → r ≡ route_place (cond (ltb (cond last (c - 1) 0) c) (some (cond last (c - 1) 0)) none) → r ≡ route_place (end_place last cs e)
  unfolding from_place to_place
  end-outer true c l h k = rw (h, l) k
  end-outer false c l h k = rw (h, l) k

  pub end-index : (last : Bool) (c : ℕ) (i : RouteIndex) → length cs ≡ c → e.place ≡ Index i → r ≡ route_place (cond (ltb i.0 c) (some i.0) none) → r ≡ route_place (end_place last cs e)
  unfolding from_place to_place
  end-index true c i l h k = rw (h, l) k
  end-index false c i l h k = rw (h, l) k

  pub end-stop : (last : Bool) (n : StopNumber) → e.place ≡ Stop n → r ≡ route_place (stop_place last cs n e.detail) → r ≡ route_place (end_place last cs e)
  unfolding from_place to_place
  end-stop true n h k = rw h k
  end-stop false n h k = rw h k

pub end-none : (last : Bool) (cs : List Call) (e : End) → e.place ≡ NoEnd → None ≡ route_place (end_place last cs e)
unfolding from_place to_place
end-none true cs e h = rw h refl
end-none false cs e h = rw h refl

pub ruleset ends = (tests, length-calls, stop-plain, stop-nth, stop-timed, end-outer, end-index, end-stop, end-none)

-- what a place was made of
index_of : Option RouteIndex → Maybe ℕ
index_of (Some i) = some i.0
index_of None = none

made_of : (o : Maybe ℕ) → o ≡ index_of (route_place o)
unfolding index_of
made_of none = refl
made_of (some k) = refl

placed : (o : Maybe ℕ) (p : Option RouteIndex) → p ≡ route_place o → o ≡ index_of p
placed o p e = made_of o ∙ ap index_of (sym e)

-- p and q are the ends as they were found, f and t their places
module _ (loose : Bool) (cs : List Call) (e : Ends) (p : Option RouteIndex) (from : p ≡ route_place (from_place cs e.from)) where
  pub legs-no-from : p ≡ None → None ≡ found_of (legs_of loose cs e)
  unfolding legs_of index_of
  legs-no-from h = rw (placed (from_place cs e.from) p from, h) refl

  module _ (f : RouteIndex) (at : p ≡ Some f) (q : Option RouteIndex) (to : q ≡ route_place (to_place cs e.to)) where
    pub legs-no-to : q ≡ None → None ≡ found_of (legs_of loose cs e)
    unfolding legs_of index_of
    legs-no-to h = rw (placed (from_place cs e.from) p from, at, placed (to_place cs e.to) q to, h) refl

    module _ (t : RouteIndex) (until : q ≡ Some t) (b : Bool) (order : b ≡ in_order loose f.0 t.0) where
      both : found_of (legs_of loose cs e) ≡ found_of (legs_by loose (some f.0) (some t.0))
      unfolding legs_of index_of
      both = rw (placed (from_place cs e.from) p from, at, placed (to_place cs e.to) q to, until) refl

      pub legs-between : b ≡ true → Some (f, t) ≡ found_of (legs_of loose cs e)
      legs-between h = rw (both, ← order, h) refl

      pub legs-missing : b ≡ false → None ≡ found_of (legs_of loose cs e)
      legs-missing h = rw (both, ← order, h) refl

pub on_legs : (cs : List Call) (x : RangeLine) (b : Bool) (r : Option (RouteIndex × RouteIndex)) → b ≡ loose_part x.part → r ≡ found_of (legs_of b cs x.ends) → r ≡ found_of (legs_on cs x)
on_legs cs x b r e d = d ∙ ap (λ (b : Bool). found_of (legs_of b cs x.ends)) e

pub ruleset legs = (tests, on_legs, legs-no-from, legs-no-to, legs-between, legs-missing)
