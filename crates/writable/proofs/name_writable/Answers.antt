use Rattle.writable.specs.Writable.{name_writable}
use Rattle.writable.proofs.Laws.{steps}
use Rattle.writable.proofs.name_writable.Goals as goal

pub returns-then-name-ge-THREE_BYTES : goal.returns-then-name-ge-THREE_BYTES
unfolding name_writable
returns-then-name-ge-THREE_BYTES c = search steps

pub returns-then-name-eq-BLANK : goal.returns-then-name-eq-BLANK
unfolding name_writable
returns-then-name-eq-BLANK c = search steps

pub three_held-requires : goal.three_held-requires
three_held-requires c = search steps

pub returns : goal.returns
unfolding name_writable
returns c = search steps
