use Rattle.writable.proofs.Laws.{steps}
use Rattle.writable.proofs.filled_byte.Goals as goal

pub returns-then-b-eq-BLANK : goal.returns-then-b-eq-BLANK
returns-then-b-eq-BLANK c = search steps

pub returns : goal.returns
returns c = search steps
