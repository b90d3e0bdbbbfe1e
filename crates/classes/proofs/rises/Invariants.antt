use Prim.Native.Nat.{◌-◌, ◌≤◌}
use lib.ListN.{length}
use Rattle.sections.proofs.Walk.{Walked}
use Rattle.classes.specs.Inner.Passes.{codes}
use Rattle.classes.proofs.Once.{Risen}
use Rattle.classes.proofs.rises.Given as goal

-- `classes::rises` meets its contract: the codes before the loop's place are below a number, and stand once. Assumes nothing.
abbrev pub invariant-loop-at : goal.invariant-loop-at
invariant-loop-at l = Walked l.f l.at l.no × (l.at ≤ length l.f) × Risen (codes l.f l.at) l.below

abbrev pub decreases-loop-at : goal.decreases-loop-at
decreases-loop-at l = length l.f - l.at
