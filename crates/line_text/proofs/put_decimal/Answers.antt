use native.Mathlib.Omega.{arith}
use lib.ListN.{length-set}
use Rattle.line_text.proofs.Writes.{writes}
use Rattle.line_text.proofs.put_decimal.Goals as goal

pub loop-i-preserved : goal.loop-i-preserved
loop-i-preserved c = (simp length-set (omega arith), simp length-set (omega arith), search writes)

pub returns : goal.returns
returns c = search writes
