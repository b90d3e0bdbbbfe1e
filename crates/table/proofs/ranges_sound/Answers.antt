use Rattle.table.proofs.Laws.{rows}
use Rattle.table.proofs.ranges_sound.Goals as goal

pub returns-then-not-legs_sound : goal.returns-then-not-legs_sound
returns-then-not-legs_sound c = search rows

pub loop-preserved : goal.loop-preserved
loop-preserved c = search rows

pub returns : goal.returns
returns c = search rows
