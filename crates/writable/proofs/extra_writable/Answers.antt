use Rattle.writable.proofs.Laws.{steps}
use Rattle.writable.proofs.extra_writable.Goals as goal

pub code_writable-requires : goal.code_writable-requires
code_writable-requires c = search steps

pub returns-then-not-code_writable : goal.returns-then-not-code_writable
returns-then-not-code_writable c = search steps

pub field_writable-requires : goal.field_writable-requires
field_writable-requires c = search steps

pub returns : goal.returns
returns c = search steps
