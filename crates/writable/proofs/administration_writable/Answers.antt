use Rattle.writable.proofs.Laws.{steps}
use Rattle.writable.proofs.administration_writable.Goals as goal

pub half_writable-requires : goal.half_writable-requires
half_writable-requires c = search steps

pub returns-then-not-half_writable : goal.returns-then-not-half_writable
returns-then-not-half_writable c = search steps

pub half_writable-requires-2 : goal.half_writable-requires-2
half_writable-requires-2 c = search steps

pub returns : goal.returns
returns c = search steps
