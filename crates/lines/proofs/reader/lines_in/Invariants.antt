use mathlib.Core.Path.{◌≡◌}
use Prim.Native.Nat.{◌+◌, ◌-◌, ◌≤◌}
use lib.ListN.{length, drop}
use Rattle.lines.specs.Lines.{lines_of}
use Rattle.lines.proofs.reader.lines_in.Given as goal

-- `reader::lines_in` meets its contract: the lines that end before the loop's place, and those of the text from there on, are all. Assumes nothing.
abbrev pub invariant-loop-at : goal.invariant-loop-at
invariant-loop-at l = (l.at ≤ length l.f) × (l.ended ≤ l.at) × (l.ended + length (lines_of (drop l.at l.f)) ≡ length (lines_of l.f))

abbrev pub decreases-loop-at : goal.decreases-loop-at
decreases-loop-at l = length l.f - l.at
