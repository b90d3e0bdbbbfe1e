use Rattle.lines.proofs.Pieces.{skipping}
use Rattle.lines.proofs.skips.Goals as goal

pub returns-then-column_at-eq37 : goal.returns-then-column_at-eq37
returns-then-column_at-eq37 c = search skipping

pub returns : goal.returns
returns c = search skipping
