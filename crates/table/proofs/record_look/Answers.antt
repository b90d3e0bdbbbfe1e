use Rattle.table.proofs.Records.{one}
use Rattle.table.proofs.record_look.Goals as goal

pub returns-then-not-sizes_sound : goal.returns-then-not-sizes_sound
returns-then-not-sizes_sound c = search one

pub returns-then-not-bounds_sound : goal.returns-then-not-bounds_sound
returns-then-not-bounds_sound c = search one

pub returns-then-calls_steady : goal.returns-then-calls_steady
returns-then-calls_steady c = search one

pub returns-then-calls_sound : goal.returns-then-calls_sound
returns-then-calls_sound c = search one

pub returns-else-calls_sound : goal.returns-else-calls_sound
returns-else-calls_sound c = search one
