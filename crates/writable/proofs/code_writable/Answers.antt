use Rattle.writable.specs.Writable.{code_writable}
use Rattle.writable.proofs.Laws.{steps, lines}
use Rattle.writable.proofs.code_writable.Goals as goal

pub returns-then-code-ge-TWO_BYTES : goal.returns-then-code-ge-TWO_BYTES
unfolding code_writable
returns-then-code-ge-TWO_BYTES c = search steps

pub returns-then-code-eq-BLANK : goal.returns-then-code-eq-BLANK
unfolding code_writable
returns-then-code-eq-BLANK c = search steps

pub two_held-requires : goal.two_held-requires
two_held-requires c = search steps

pub returns-then-not-two_held : goal.returns-then-not-two_held
returns-then-not-two_held c = search lines

pub returns : goal.returns
unfolding code_writable
returns c = search steps
