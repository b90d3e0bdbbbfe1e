-- What is sought is the same from the loop's place on. Assumes nothing.
use Rattle.lines.proofs.Pieces.{blocks}
use Rattle.lines.proofs.past_blocks.Goals as goal

pub loop-i-preserved : goal.loop-i-preserved
loop-i-preserved c = search blocks
