use Rattle.service_lines.proofs.Services.{shown_from}
use Rattle.writable.specs.Writable.{service_writable}
use Rattle.timetable.specs.Table.{stops#, table_of, records_sound}
use Rattle.base.specs.Lists.{every}
use lib.ListN.{length, drop}
use Prim.Native.Nat.{◌-◌, ◌≤◌}
use mathlib.Core.Bool.{true}
use mathlib.Core.Path.{◌≡◌}
use Rattle.service_lines.proofs.services_writable.Given as goal

abbrev pub invariant-loop : goal.invariant-loop
invariant-loop l = (l.at ≤ length l.w) × (records_sound (stops# l.w) (l.end - l.counter) (drop l.at l.w) ≡ true) × (every service_writable (shown_from l.w (l.end - l.counter) l.at) ≡ every service_writable (table_of l.w).services)
