use Rattle.writable.specs.Writable.{half_writable}
use Rattle.base.specs.Lists.{every}
use Rattle.writable.proofs.Laws.{steps, lines}
use Rattle.writable.proofs.half_writable.Goals as goal

pub returns-then-n-ge-THREE_BYTES : goal.returns-then-n-ge-THREE_BYTES
unfolding half_writable every
returns-then-n-ge-THREE_BYTES c = search steps

pub filled_byte-requires : goal.filled_byte-requires
filled_byte-requires c = search steps

pub returns-then-not-filled_byte : goal.returns-then-not-filled_byte
unfolding half_writable every
returns-then-not-filled_byte c = search steps

pub filled_byte-requires-2 : goal.filled_byte-requires-2
filled_byte-requires-2 c = search steps

pub returns-then-not-filled_byte-2 : goal.returns-then-not-filled_byte-2
returns-then-not-filled_byte-2 c = search lines

pub filled_byte-requires-3 : goal.filled_byte-requires-3
filled_byte-requires-3 c = search steps

pub returns : goal.returns
unfolding half_writable every
returns c = search steps
