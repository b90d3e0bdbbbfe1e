use mathlib.Core.Path.{◌≡◌}
use lib.ListN.{length}
use Rattle.chains.specs.Inner.Filling.{Linked}
use Rattle.chains.proofs.fill.Given as goal

abbrev pub invariant-loop-k : goal.invariant-loop-k
invariant-loop-k l = Linked l.w l.end l.size l.n l.k l.m × (length l.m ≡ length l.initial.m)
