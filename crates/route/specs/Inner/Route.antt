-- Range ends on the calls of a draft: what the code answers, and what it seeks. Nobody has to believe more here than that each case says the
-- test of its name in the definitions of the crate timetable. Assumes nothing.
use Rattle.std.specs.Prelude.{ℕ, Bool, cond, List, Option, Some, None}
use Rattle.std.proofs.Math.Option.{Option as Maybe, none, some}
use Rattle.fields.specs.declared.RouteIndex.{RouteIndex}
use Rattle.fields.specs.declared.StopNumber.{StopNumber}
use Rattle.fields.specs.declared.Detail.{Detail}
use Rattle.timetable.specs.Delivery.{Legs}
use Rattle.timetable.specs.Ranges.{calls_at, departs_at, arrives_at, from_stop, to_stop, from_place, to_place}
use Rattle.timetable.specs.declared.Call.{Call}
use Rattle.timetable.specs.declared.End.{End}
use Rattle.route.specs.declared.Sought.{Sought}
use Rattle.route.specs.declared.Sought.TheVariants.{Calling, Departing, Arriving}

abbrev pub meets : Sought → Call → Bool
meets (Calling n) c = calls_at n c
meets (Departing n m) c = departs_at n m c
meets (Arriving n m) c = arrives_at n m c

abbrev pub route_place : Maybe ℕ → Option RouteIndex
route_place none = None
route_place (some k) = Some (record { 0 = k })

abbrev pub found_of : Maybe Legs → Option (RouteIndex × RouteIndex)
found_of none = None
found_of (some g) = Some (record { 0 = g.from }, record { 0 = g.to })

-- a range's first end, or its last
abbrev pub stop_place : Bool → List Call → StopNumber → Detail → Maybe ℕ
stop_place last cs n d = cond last (to_stop cs n d) (from_stop cs n d)

abbrev pub end_place : Bool → List Call → End → Maybe ℕ
end_place last cs e = cond last (to_place cs e) (from_place cs e)
