use Prim.Native.Nat.{◌-◌}
use Rattle.timetable.specs.Files.{bit_fields_in}
use Rattle.service.proofs.Stretches.{Swept}
use Rattle.reading.specs.Inner.Maps.{FieldMap}
use Rattle.service.proofs.torn_days.Given as goal

abbrev pub invariant-loop-leg : goal.invariant-loop-leg
invariant-loop-leg l =
    Swept (bit_fields_in l.bitfeld) l.ranges l.v l.legs l.begun l.ended l.broken l.leg × FieldMap l.bitfeld l.fields

abbrev pub decreases-loop-leg : goal.decreases-loop-leg
decreases-loop-leg l = l.legs - l.leg
