use mathlib.Core.Path.{◌≡◌}
use Prim.Native.Nat.{◌+◌, ◌-◌, ◌*◌, ◌≤◌}
use lib.ListN.{length, drop}
use Rattle.table.specs.Steady.{later_steady}
use Rattle.table.proofs.steady.few_steady.Given as goal

abbrev pub invariant-loop : goal.invariant-loop
invariant-loop l = (l.p + 7 * (l.left - l.counter + 1) ≤ length l.s) × (later_steady l.stops (l.left - l.counter) l.before (drop l.p l.s) ≡ later_steady l.stops l.left l.departure (drop l.from l.s))
