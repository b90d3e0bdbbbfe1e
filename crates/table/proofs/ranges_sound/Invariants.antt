use mathlib.Core.Path.{◌≡◌}
use Prim.Native.Nat.{◌+◌, ◌-◌, ◌*◌, ◌≤◌}
use lib.ListN.{length, drop}
use Rattle.base.specs.Lists.{every}
use Rattle.timetable.specs.Table.{rows_in, legs_at, legs_sound}
use Rattle.table.proofs.ranges_sound.Given as goal

abbrev pub invariant-loop : goal.invariant-loop
invariant-loop l = (l.p + (l.own + 2) * (l.n - l.counter) ≤ length l.w) × (every (legs_sound l.loose l.c) (rows_in (legs_at l.own) (l.own + 2) (l.n - l.counter) (drop l.p l.w)) ≡ every (legs_sound l.loose l.c) (rows_in (legs_at l.own) (l.own + 2) l.n (drop l.at l.w)))
