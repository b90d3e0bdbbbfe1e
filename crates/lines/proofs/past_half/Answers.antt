use Rattle.lines.proofs.Pieces.{blocks}
use Rattle.lines.proofs.past_half.Goals as goal

pub returns-then-no_lf : goal.returns-then-no_lf
returns-then-no_lf c = search blocks
