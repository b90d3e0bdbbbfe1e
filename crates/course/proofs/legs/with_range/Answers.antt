use Rattle.course.proofs.legs.Turn.{turn}
use Rattle.course.proofs.legs.with_range.Goals as goal

pub with_operated-requires : goal.with_operated-requires
with_operated-requires c = search turn

pub returns-then-runs : goal.returns-then-runs
returns-then-runs c = search turn

pub with_idle-requires : goal.with_idle-requires
with_idle-requires c = search turn

pub returns : goal.returns
returns c = search turn
