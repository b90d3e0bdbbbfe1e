use native.Mathlib.Omega.{arith}
use lib.ListN.{length-set}
use Rattle.line_text.proofs.Writes.{writes}
use Rattle.line_text.proofs.put_before.Goals as goal

pub returns-then-m-eq0 : goal.returns-then-m-eq0
returns-then-m-eq0 c = search writes

pub loop-i-preserved : goal.loop-i-preserved
loop-i-preserved c = (simp length-set (omega arith), simp length-set (omega arith), search writes)

pub returns : goal.returns
returns c = search writes
