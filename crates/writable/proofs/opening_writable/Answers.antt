use Rattle.writable.specs.Writable.{opening_writable}
use Rattle.writable.proofs.Laws.{steps, lines}
use Rattle.writable.proofs.opening_writable.Goals as goal

pub returns-then-o-ge100000 : goal.returns-then-o-ge100000
unfolding opening_writable
returns-then-o-ge100000 c = search steps

pub administration_writable-requires : goal.administration_writable-requires
administration_writable-requires c = search steps

pub returns-then-not-administration_writable : goal.returns-then-not-administration_writable
unfolding opening_writable
returns-then-not-administration_writable c = search steps

pub returns-then-o-eq0 : goal.returns-then-o-eq0
unfolding opening_writable
returns-then-o-eq0 c = search steps

pub returns : goal.returns
returns c = search lines
