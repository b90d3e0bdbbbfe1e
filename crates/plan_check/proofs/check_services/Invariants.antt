use mathlib.Core.Path.{◌≡◌}
use Prim.Native.Nat.{◌+◌, ◌-◌, ◌≤◌}
use lib.ListN.{length}
use Rattle.lines.specs.Lines.{lines_at}
use Rattle.timetable.specs.Files.{bit_fields_in, stops_in, classes_in}
use Rattle.timetable.specs.Service.{blocks}
use Rattle.timetable.specs.Checks.{services_first}
use Rattle.draft.specs.Inner.Draft.{calls_lent, ranges_lent}
use Rattle.reading.specs.Inner.Maps.{FieldMap, StopMap, ClassIndex}
use Rattle.reading.specs.Inner.Reading.{Boundary}
use Rattle.reading.specs.Inner.Services.{block_words}
use Rattle.plan_check.proofs.check_services.Given as goal

abbrev pub invariant-loop-at : goal.invariant-loop-at
invariant-loop-at l =
    (length l.calls ≡ length l.initial.calls) × (length l.ranges ≡ length l.initial.ranges)
    × (calls_lent ≤ length l.calls) × (ranges_lent ≤ length l.ranges)
    × Boundary l.fplan l.at l.line
    × (l.count + length (blocks (lines_at l.fplan l.at l.line)) ≡ length (blocks (lines_at l.fplan l.start l.first)))
    × (l.total + length (block_words (blocks (lines_at l.fplan l.at l.line))) ≡ length (block_words (blocks (lines_at l.fplan l.start l.first))))
    × (services_first (bit_fields_in l.bitfeld) (stops_in l.bahnhof) (classes_in l.zugart) l.days (blocks (lines_at l.fplan l.at l.line)) ≡ services_first (bit_fields_in l.bitfeld) (stops_in l.bahnhof) (classes_in l.zugart) l.days (blocks (lines_at l.fplan l.start l.first)))
    × (FieldMap l.bitfeld l.fields × StopMap l.bahnhof l.stops × ClassIndex l.zugart l.index)

abbrev pub decreases-loop-at : goal.decreases-loop-at
decreases-loop-at l =
    length l.fplan - l.at
