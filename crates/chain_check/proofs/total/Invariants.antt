use mathlib.Core.Path.{◌≡◌}
use Prim.Native.Nat.{◌+◌, ◌*◌, ◌≤◌}
use Rattle.chain_check.specs.Tally.{sum_to, chain_count}
use Rattle.chain_check.proofs.total.Given as goal

abbrev pub invariant-loop-b : goal.invariant-loop-b
invariant-loop-b l = (l.b ≤ l.n) × (l.sum ≡ sum_to (chain_count l.w l.end l.size l.n l.m) l.b) × (l.sum ≤ l.b * (l.n + 1))
