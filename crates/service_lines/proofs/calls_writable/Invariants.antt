use Rattle.service_lines.specs.Inner.Record.{shown_call, call_rows}
use Rattle.writable.specs.Writable.{call_writable}
use Rattle.timetable.specs.Table.{rows_in, call_at, stops#, table_of, call_sound}
use Rattle.timetable.specs.Layout.{call_size}
use Rattle.base.specs.Lists.{every}
use lib.ListN.{length, drop}
use Prim.Native.Nat.{◌+◌, ◌-◌, ◌*◌, ◌≤◌}
use mathlib.Core.Bool.{true}
use mathlib.Core.Path.{◌≡◌}
use Rattle.service_lines.proofs.calls_writable.Given as goal

abbrev pub invariant-loop : goal.invariant-loop
invariant-loop l = (l.p + call_size * (l.end - l.counter) ≤ length l.s) × (every (call_sound (stops# l.w)) (rows_in call_at call_size (l.end - l.counter) (drop l.p l.s)) ≡ true) × (every call_writable (rows_in (shown_call (table_of l.w).stops) call_size (l.end - l.counter) (drop l.p l.s)) ≡ every call_writable (call_rows (table_of l.w).stops l.s))
