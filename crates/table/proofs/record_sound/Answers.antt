use Rattle.table.proofs.Records.{one}
use Rattle.table.proofs.record_sound.Goals as goal

pub returns-then-not-sizes_sound : goal.returns-then-not-sizes_sound
returns-then-not-sizes_sound c = search one

pub returns-then-not-bounds_sound : goal.returns-then-not-bounds_sound
returns-then-not-bounds_sound c = search one

pub returns : goal.returns
returns c = search one
