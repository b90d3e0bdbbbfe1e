use Rattle.writable.specs.Writable.{call_writable}
use Rattle.writable.proofs.Laws.{steps, lines}
use Rattle.writable.proofs.call_writable.Goals as goal

pub returns-then-c-ge10000000 : goal.returns-then-c-ge10000000
unfolding call_writable
returns-then-c-ge10000000 c = search steps

pub returns-then-c-ge100000 : goal.returns-then-c-ge100000
unfolding call_writable
returns-then-c-ge100000 c = search steps

pub administration_writable-requires : goal.administration_writable-requires
administration_writable-requires c = search steps

pub returns-then-not-administration_writable : goal.returns-then-not-administration_writable
returns-then-not-administration_writable c = search lines

pub times_writable-requires : goal.times_writable-requires
times_writable-requires c = search steps

pub returns : goal.returns
unfolding call_writable
returns c = search steps
