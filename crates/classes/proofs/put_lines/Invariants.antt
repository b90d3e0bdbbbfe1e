use mathlib.Core.Path.{◌≡◌}
use Prim.Native.Nat.{◌-◌, ◌≤◌}
use lib.ListN.{length}
use Rattle.sections.proofs.Walk.{Walked}
use Rattle.classes.specs.Inner.Index.{Entered}
use Rattle.classes.proofs.put_lines.Given as goal

-- `classes::put_lines` meets its contract: the lines before the loop's place are in the index. Assumes nothing.
abbrev pub invariant-loop-at : goal.invariant-loop-at
invariant-loop-at l = Walked l.f l.at l.no × (l.at ≤ length l.f) × Entered l.f l.at l.index × (length l.index ≡ length l.initial.index)

abbrev pub decreases-loop-at : goal.decreases-loop-at
decreases-loop-at l = length l.f - l.at
