use Rattle.plan_services.specs.Services.{plan_lines}
use Rattle.timetable.specs.Table.{stops#, table_of, records_sound}
use lib.ListN.{length, drop}
use Prim.Native.Nat.{◌+◌, ◌-◌, ◌*◌, ◌≤◌}
use mathlib.Core.Bool.{true}
use mathlib.Core.Path.{◌≡◌}
use Rattle.service_lines.proofs.Services.{shown_from}
use Rattle.service_lines.proofs.count_lines.Given as goal

abbrev pub invariant-loop : goal.invariant-loop
invariant-loop l = (l.at ≤ length l.w) × (l.n ≤ 401 * l.counter) × (records_sound (stops# l.w) (l.end - l.counter) (drop l.at l.w) ≡ true) × (l.n + length (plan_lines (shown_from l.w (l.end - l.counter) l.at)) ≡ length (plan_lines (table_of l.w).services))
