use Rattle.calls_check.specs.Inner.Check.{entries_right}
use Rattle.calls.specs.Calls.{stands_from}
use Rattle.timetable.specs.Table.{stops#}
use Prim.Native.Nat.{◌+◌, ◌-◌, ◌≤◌}
use mathlib.Core.Path.{◌≡◌}
use Rattle.calls_check.proofs.route_right.Given as goal

abbrev pub invariant-loop-p : goal.invariant-loop-p
invariant-loop-p l = (l.p ≤ l.c) × (entries_right (stops# l.w) l.x (l.k + l.p) (stands_from l.i l.at (l.c - l.p) l.p) ≡ entries_right (stops# l.w) l.x l.k (stands_from l.i l.at l.c 0))
