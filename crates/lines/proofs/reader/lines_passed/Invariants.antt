use mathlib.Core.Path.{◌≡◌}
use Prim.Native.Nat.{◌-◌}
use lib.ListN.{length}
use Rattle.lines.proofs.reader.Count.{Kept}
use Rattle.lines.proofs.reader.lines_passed.Given as goal

-- the reader keeps its file, and its place and number are those of a walk of the file
abbrev pub invariant-loop-reader : goal.invariant-loop-reader
invariant-loop-reader l = (l.reader.file.now ≡ l.text) × Kept l.text l.reader.at l.reader.no

abbrev pub decreases-loop-reader : goal.decreases-loop-reader
decreases-loop-reader l = length l.text - l.reader.at
