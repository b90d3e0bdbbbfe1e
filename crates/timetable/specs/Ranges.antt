-- Range ends (5.3.1): where a range starts and ends on the calls of its route. "Route indexes, appearance counts and stop numbers are three
-- separate counters and never stand for each other." Assumes nothing.
use Rattle.std.specs.Prelude.{ℕ, ◌+◌, ◌-◌, ◌/◌, ◌%◌, List, [], ◌∷◌, Bool, true, false, cond, ◌&&◌, length, ltb, leb, eqb}
use Rattle.std.proofs.Math.Option.{Option, none, some}
use Rattle.std.proofs.Math.ListN.{get_elem?}
use Rattle.fields.specs.declared.RouteIndex.{RouteIndex}
use Rattle.fields.specs.declared.Appearance.{Appearance}
use Rattle.fields.specs.declared.StopNumber.{StopNumber}
use Rattle.fields.specs.declared.RangeEnd.{RangeEnd}
use Rattle.fields.specs.declared.RangeEnd.TheVariants.{Outer, Index, Stop, NoEnd}
use Rattle.fields.specs.declared.Detail.{Detail}
use Rattle.fields.specs.declared.Detail.TheVariants.{Plain, Nth, Timed, NoDetail}
use Rattle.timetable.specs.Delivery.{Legs}
use Rattle.timetable.specs.declared.Call.{Call}
use Rattle.timetable.specs.declared.End.{End}
use Rattle.timetable.specs.declared.Ends.{Ends}

-- the places of the calls that pass a test, counted from k
unfoldable pub places : (Call → Bool) → ℕ → List Call → List ℕ
places t k [] = []
places t k (c ∷ cs) = cond (t c) (k ∷ places t (k + 1) cs) (places t (k + 1) cs)

abbrev pub first_place : List ℕ → Option ℕ
first_place [] = none
first_place (k ∷ ks) = some k

unfoldable pub last_place : List ℕ → Option ℕ
last_place [] = none
last_place (k ∷ []) = some k
last_place (k ∷ j ∷ ks) = last_place (j ∷ ks)

-- flags 1 and 2: the time is stated
abbrev pub has_arrival : Call → Bool
has_arrival c = eqb (c.flags % 2) 1

abbrev pub has_departure : Call → Bool
has_departure c = eqb (c.flags / 2 % 2) 1

abbrev pub calls_at : StopNumber → Call → Bool
calls_at n c = eqb c.stop n.0

abbrev pub departs_at : StopNumber → ℕ → Call → Bool
departs_at n m c = calls_at n c && (has_departure c && eqb c.departure m)

abbrev pub arrives_at : StopNumber → ℕ → Call → Bool
arrives_at n m c = calls_at n c && (has_arrival c && eqb c.arrival m)

-- "that appearance, from 0 at the route's start"
abbrev pub appearance : List ℕ → Appearance → Option ℕ
appearance ks k = get_elem? ks k.0

-- "For a stop the detail says: blank, the first appearance for from ..; "#" and digits .., that appearance, from 0 at the route's start ..;
-- a time, the first appearance with that departure for from"
abbrev pub from_stop : List Call → StopNumber → Detail → Option ℕ
from_stop cs n Plain = first_place (places (calls_at n) 0 cs)
from_stop cs n (Nth k) = appearance (places (calls_at n) 0 cs) k
from_stop cs n (Timed m) = first_place (places (departs_at n m) 0 cs)
from_stop cs n NoDetail = none

-- ".. the last for to; .. that appearance, from 0 at the route's start; .. the last with that arrival for to"
abbrev pub to_stop : List Call → StopNumber → Detail → Option ℕ
to_stop cs n Plain = last_place (places (calls_at n) 0 cs)
to_stop cs n (Nth k) = appearance (places (calls_at n) 0 cs) k
to_stop cs n (Timed m) = last_place (places (arrives_at n m) 0 cs)
to_stop cs n NoDetail = none

-- a place that the route has
abbrev pub on_route : List Call → RouteIndex → Option ℕ
on_route cs k = cond (ltb k.0 (length cs)) (some k.0) none

-- "A from or to is blank (first, last call), "#" and digits with blanks around (route index from 0), or seven digits (stop)."
abbrev pub from_by : List Call → RangeEnd → Detail → Option ℕ
from_by cs Outer d = on_route cs (record { 0 = 0 })
from_by cs (Index k) d = on_route cs k
from_by cs (Stop n) d = from_stop cs n d
from_by cs NoEnd d = none

abbrev pub to_by : List Call → RangeEnd → Detail → Option ℕ
to_by cs Outer d = on_route cs (record { 0 = length cs - 1 })
to_by cs (Index k) d = on_route cs k
to_by cs (Stop n) d = to_stop cs n d
to_by cs NoEnd d = none

unfoldable pub from_place : List Call → End → Option ℕ
from_place cs e = from_by cs e.place e.detail

unfoldable pub to_place : List Call → End → Option ℕ
to_place cs e = to_by cs e.place e.detail

-- "*G and operating-day ranges need from < to and cover the legs between; other *A need from ≤ to" (these are `loose`)
abbrev pub in_order : Bool → ℕ → ℕ → Bool
in_order loose f t = cond loose (leb f t) (ltb f t)

abbrev pub legs_by : Bool → Option ℕ → Option ℕ → Option Legs
legs_by loose none t = none
legs_by loose (some f) none = none
legs_by loose (some f) (some t) = cond (in_order loose f t) (some (record { from = f; to = t })) none

-- both ends found, and in order
unfoldable pub legs_of : Bool → List Call → Ends → Option Legs
legs_of loose cs e = legs_by loose (from_place cs e.from) (to_place cs e.to)
