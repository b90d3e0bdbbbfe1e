use Rattle.calls_check.specs.Inner.Check.{count_from, chain_count}
use Prim.Native.Nat.{◌+◌, ◌≤◌}
use mathlib.Core.Path.{◌≡◌}
use Rattle.calls_check.proofs.chain_count.Given as goal

abbrev pub invariant-loop-e : goal.invariant-loop-e
invariant-loop-e l = (l.bound ≤ l.n) × (l.c + l.bound ≤ l.n) × (count_from l.w l.x l.b l.c l.bound l.e ≡ chain_count l.w l.x l.b)

abbrev pub decreases-loop-e : goal.decreases-loop-e
decreases-loop-e l = l.bound
