use mathlib.Core.Path.{◌≡◌}
use Prim.Native.Nat.{◌-◌}
use lib.ListN.{length}
use Rattle.timetable.specs.Files.{bit_fields_in, stops_in, classes_in}
use Rattle.reading.proofs.Checking.{Clean}
use Rattle.reading.specs.Inner.Maps.{FieldMap, StopMap, ClassIndex}
use Rattle.reading.proofs.read_checked.Given as goal

abbrev pub invariant-loop-after : goal.invariant-loop-after
invariant-loop-after l =
    (length l.calls ≡ length l.initial.calls) × (length l.ranges ≡ length l.initial.ranges) × Clean (bit_fields_in l.bitfeld) (stops_in l.bahnhof) (classes_in l.zugart) l.fplan l.at l.no l.opening l.end l.line l.counts l.calls l.ranges × (FieldMap l.bitfeld l.fields × StopMap l.bahnhof l.stops × ClassIndex l.zugart l.index)

abbrev pub decreases-loop-after : goal.decreases-loop-after
decreases-loop-after l =
    length l.fplan - l.end
