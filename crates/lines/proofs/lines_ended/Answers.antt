-- How many lines end within the bytes that are counted. Assumes nothing.
use native.Mathlib.Omega.{arith}
use Rattle.lines.proofs.Counts.{counts}
use Rattle.lines.proofs.lines_ended.Goals as goal

pub loop-i-preserved : goal.loop-i-preserved
loop-i-preserved c = (omega arith, search counts, search counts)
