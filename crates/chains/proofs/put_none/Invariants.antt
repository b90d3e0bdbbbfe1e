use mathlib.Core.Path.{◌≡◌}
use lib.ListN.{length}
use Rattle.chains.specs.Inner.Filling.{Headless}
use Rattle.chains.proofs.put_none.Given as goal

abbrev pub invariant-loop-b : goal.invariant-loop-b
invariant-loop-b l = Headless l.m l.b × (length l.m ≡ length l.initial.m)
