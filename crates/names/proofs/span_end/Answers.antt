use Rattle.names.proofs.Laws.{loops}
use Rattle.names.proofs.span_end.Goals as goal

pub loop-i-init : goal.loop-i-init
loop-i-init c = search loops

pub bounds-field-i : goal.bounds-field-i
bounds-field-i c = search loops

pub is_of-requires : goal.is_of-requires
is_of-requires c = search loops

pub overflow_add-i : goal.overflow_add-i
overflow_add-i c = search loops

pub loop-i-smaller : goal.loop-i-smaller
loop-i-smaller c = search loops

pub loop-i-preserved : goal.loop-i-preserved
loop-i-preserved c = search loops

pub returns-else-is_of : goal.returns-else-is_of
returns-else-is_of c = search loops

pub returns : goal.returns
returns c = search loops
