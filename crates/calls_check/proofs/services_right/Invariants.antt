use Rattle.calls_check.specs.Inner.Check.{entries_right}
use Rattle.calls.specs.Calls.{calls_from, stands_in}
use Rattle.calls.specs.Inner.Passed.{Here}
use Rattle.timetable.specs.Table.{stops#, services#}
use Prim.Native.Nat.{◌-◌}
use mathlib.Core.Path.{◌≡◌}
use Rattle.calls_check.proofs.services_right.Given as goal

abbrev pub invariant-loop-i : goal.invariant-loop-i
invariant-loop-i l = Here l.w l.i l.at l.k × (entries_right (stops# l.w) l.x l.k (calls_from l.w l.i l.at (services# l.w - l.i)) ≡ entries_right (stops# l.w) l.x 0 (stands_in l.w))
