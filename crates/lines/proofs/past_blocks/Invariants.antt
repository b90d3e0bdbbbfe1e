use mathlib.Core.Path.{◌≡◌}
use Prim.Native.Nat.{◌+◌, ◌-◌, ◌≤◌}
use lib.ListN.{length, drop}
use Rattle.lines.specs.Lines.{to_lf}
use Rattle.lines.proofs.past_blocks.Given as goal

-- What is sought is the same from the loop's place on. Assumes nothing.
abbrev pub invariant-loop-i : goal.invariant-loop-i
invariant-loop-i l = (l.i ≤ length l.file) × (l.i + to_lf (drop l.i l.file) ≡ l.at + to_lf (drop l.at l.file))

abbrev pub decreases-loop-i : goal.decreases-loop-i
decreases-loop-i l = length l.file - l.i
