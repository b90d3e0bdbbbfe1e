use Rattle.service_lines.specs.Inner.Record.{range_size, here, part_rows, range_writable}
use Rattle.timetable.specs.Table.{rows_in}
use Rattle.base.specs.Lists.{every}
use lib.ListN.{length, drop}
use Prim.Native.Nat.{◌+◌, ◌-◌, ◌*◌, ◌≤◌}
use mathlib.Core.Path.{◌≡◌}
use Rattle.service_lines.proofs.ranges_writable.Given as goal

abbrev pub invariant-loop : goal.invariant-loop
invariant-loop l = (l.p + range_size l.part * (l.end - l.counter) ≤ length l.s) × (every (range_writable l.part) (rows_in here (range_size l.part) (l.end - l.counter) (drop l.p l.s)) ≡ every (range_writable l.part) (part_rows l.part l.s))
