use mathlib.Core.Path.{◌≡◌}
use Prim.Native.Nat.{◌≤◌}
use Rattle.chains.specs.Chains.{along_by}
use Rattle.chains.proofs.along.Given as goal

abbrev pub invariant-loop-e : goal.invariant-loop-e
invariant-loop-e l = (l.bound ≤ l.n) × (along_by l.w l.x l.end l.size l.from l.key l.bound l.e ≡ along_by l.w l.x l.end l.size l.from l.key l.most l.first)

abbrev pub decreases-loop-e : goal.decreases-loop-e
decreases-loop-e l = l.bound
