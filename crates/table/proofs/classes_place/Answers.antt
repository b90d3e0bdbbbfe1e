use Rattle.table.proofs.Records.{classes}
use Rattle.table.proofs.classes_place.Goals as goal

pub bounds-w-7 : goal.bounds-w-7
bounds-w-7 c = search classes

pub bounds-w-8 : goal.bounds-w-8
bounds-w-8 c = search classes

pub overflow_sub-result : goal.overflow_sub-result
overflow_sub-result c = search classes

pub returns : goal.returns
returns c = search classes
