use Rattle.course.proofs.legs.Turn.{turn}
use Rattle.course.proofs.legs.with_operated.Goals as goal

pub returns-then-seen-from : goal.returns-then-seen-from
returns-then-seen-from c = search turn

pub returns : goal.returns
returns c = search turn
