use Rattle.calls_check.specs.Inner.Check.{chain_count}
use Rattle.chain_check.specs.Tally.{sum_to}
use Prim.Native.Nat.{◌+◌, ◌-◌, ◌*◌, ◌≤◌}
use mathlib.Core.Path.{◌≡◌}
use Rattle.calls_check.proofs.total.Given as goal

abbrev pub invariant-loop-b : goal.invariant-loop-b
invariant-loop-b l = (l.b ≤ l.s) × (l.sum ≤ l.b * (l.n + 1)) × (l.sum ≡ sum_to (chain_count l.w l.x) l.b)
