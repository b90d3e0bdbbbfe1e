use mathlib.Core.Path.{◌≡◌}
use Prim.Native.Nat.{◌+◌, ◌≤◌}
use lib.ListN.{length, drop}
use Rattle.lines.specs.Lines.{lines_of}
use Rattle.lines.proofs.lines_ended.Given as goal

-- How many lines end within the bytes that are counted. Assumes nothing.
abbrev pub invariant-loop-i : goal.invariant-loop-i
invariant-loop-i l = (l.i ≤ 128) × (l.ended ≤ l.i) × (l.ended + length (lines_of (drop (l.at + l.i) l.file)) ≡ length (lines_of (drop l.at l.file)))
