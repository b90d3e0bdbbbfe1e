-- The bytes from the loop's place on give the same end as those from `at`. Assumes nothing.
use Rattle.lines.proofs.Pieces.{cuts}
use Rattle.lines.proofs.first_lf.Goals as goal

pub returns-then-file-i-eq10 : goal.returns-then-file-i-eq10
returns-then-file-i-eq10 c = search cuts

pub loop-i-preserved : goal.loop-i-preserved
loop-i-preserved c = search cuts

pub returns : goal.returns
returns c = search cuts
