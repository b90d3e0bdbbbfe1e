use Rattle.writable.proofs.Laws.{steps, lines}
use Rattle.writable.proofs.time_writable.Goals as goal

pub returns-then-stated : goal.returns-then-stated
returns-then-stated c = search steps

pub returns-then-barred : goal.returns-then-barred
returns-then-barred c = search steps

pub returns : goal.returns
returns c = search lines
