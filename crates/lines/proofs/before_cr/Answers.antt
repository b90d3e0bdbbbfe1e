use Rattle.lines.proofs.Pieces.{cuts}
use Rattle.lines.proofs.before_cr.Goals as goal

pub returns-then-file-end-eq13 : goal.returns-then-file-end-eq13
returns-then-file-end-eq13 c = search cuts

pub returns-else-file-end-eq13 : goal.returns-else-file-end-eq13
returns-else-file-end-eq13 c = search cuts

pub returns-else-at-end : goal.returns-else-at-end
returns-else-at-end c = search cuts
