use Prim.Native.Nat.{◌-◌, ◌≤◌}
use lib.ListN.{length}
use Rattle.sections.proofs.Walk.{Walked}
use Rattle.classes.specs.Inner.Passes.{codes}
use Rattle.classes.proofs.Once.{Passing}
use Rattle.classes.proofs.marked_pass.Given as goal

-- `classes::marked_pass` meets its contract: the codes before the loop's place that begin with b are marked, and stand once. Assumes nothing.
abbrev pub invariant-loop-at : goal.invariant-loop-at
invariant-loop-at l = Walked l.f l.at l.no × (l.at ≤ length l.f) × Passing l.b (codes l.f l.at) l.next l.marks

abbrev pub decreases-loop-at : goal.decreases-loop-at
decreases-loop-at l = length l.f - l.at
