use Rattle.course.proofs.legs.Turn.{turn}
use Rattle.course.proofs.legs.with_idle.Goals as goal

pub returns-then-seen-from : goal.returns-then-seen-from
returns-then-seen-from c = search turn

pub returns-then-seen-from-2 : goal.returns-then-seen-from-2
returns-then-seen-from-2 c = search turn

pub returns : goal.returns
returns c = search turn
