use mathlib.Core.Path.{◌≡◌}
use Prim.Native.Nat.{◌+◌, ◌-◌, ◌*◌, ◌≤◌}
use lib.ListN.{length, drop}
use Rattle.table.specs.Steady.{later_steady}
use Rattle.table.proofs.steady.later_steady.Given as goal

abbrev pub invariant-loop : goal.invariant-loop
invariant-loop l = (l.p + 7 * (l.left - 4 * l.counter + 1) ≤ length l.s) × (later_steady l.stops (l.left - 4 * l.counter) l.before (drop l.p l.s) ≡ later_steady l.stops l.left l.departure (drop 19 l.s))
