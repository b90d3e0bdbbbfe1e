-- Whether there is an LF among the bytes that are tested. Assumes nothing.
use native.Mathlib.Omega.{arith}
use Rattle.lines.proofs.Pieces.{blocks}
use Rattle.lines.proofs.no_lf.Goals as goal

pub loop-i-preserved : goal.loop-i-preserved
loop-i-preserved c = (omega arith, search blocks)
