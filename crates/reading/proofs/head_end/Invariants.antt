use mathlib.Core.Path.{◌≡◌}
use Prim.Native.Nat.{◌-◌}
use lib.ListN.{length}
use Rattle.reading.proofs.Heads.{Headed}
use Rattle.reading.proofs.head_end.Given as goal

-- the reader keeps its file, and no line up to its place and its line number ends the lines before the first service
abbrev pub invariant-loop-reader : goal.invariant-loop-reader
invariant-loop-reader l = (l.reader.file.now ≡ l.f) × Headed l.f l.reader.at l.reader.no

abbrev pub decreases-loop-reader : goal.decreases-loop-reader
decreases-loop-reader l = length l.f - l.reader.at
