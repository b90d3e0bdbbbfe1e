use Rattle.index.proofs.Records.{froms}
use Rattle.index.proofs.record_from.Goals as goal

pub returns-then-w-p : goal.returns-then-w-p
returns-then-w-p c = search froms

pub bounds-w-4 : goal.bounds-w-4
bounds-w-4 c = search froms

pub returns-then-not-record_sound : goal.returns-then-not-record_sound
returns-then-not-record_sound c = search froms

pub returns : goal.returns
returns c = search froms
