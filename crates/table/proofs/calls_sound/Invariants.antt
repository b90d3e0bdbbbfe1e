use mathlib.Core.Path.{◌≡◌}
use Prim.Native.Nat.{◌+◌, ◌-◌, ◌*◌, ◌≤◌}
use lib.ListN.{length, drop}
use Rattle.base.specs.Lists.{every}
use Rattle.timetable.specs.Layout.{call_size}
use Rattle.timetable.specs.Table.{rows_in, call_at, call_sound}
use Rattle.table.proofs.calls_sound.Given as goal

abbrev pub invariant-loop : goal.invariant-loop
invariant-loop l = (l.p + call_size * (l.n - l.counter) ≤ length l.w) × (every (call_sound l.stops) (rows_in call_at call_size (l.n - l.counter) (drop l.p l.w)) ≡ every (call_sound l.stops) (rows_in call_at call_size l.n (drop l.at l.w)))
