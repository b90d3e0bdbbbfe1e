use mathlib.Core.Path.{◌≡◌}
use mathlib.Core.Bool.{◌&&◌}
use Prim.Native.Nat.{◌-◌, ◌≤◌}
use lib.ListN.{length, drop}
use Rattle.timetable.specs.Table.{records_sound}
use Rattle.table.specs.Steady.{records_steady}
use Rattle.table.proofs.records_look.Given as goal

abbrev pub invariant-loop : goal.invariant-loop
invariant-loop l =
    (l.at ≤ length l.w)
    × (records_sound l.stops (l.v - l.counter) (drop l.at l.w) ≡ records_sound l.stops l.v l.w)
    × ((l.steady && records_steady l.stops (l.v - l.counter) (drop l.at l.w)) ≡ records_steady l.stops l.v l.w)
