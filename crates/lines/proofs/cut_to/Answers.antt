use Rattle.lines.proofs.Pieces.{cuts}
use Rattle.lines.proofs.cut_to.Goals as goal

pub before_cr-stop-requires : goal.before_cr-stop-requires
before_cr-stop-requires c = search cuts

pub returns : goal.returns
returns c = search cuts
