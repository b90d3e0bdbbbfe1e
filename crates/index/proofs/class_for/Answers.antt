use Rattle.index.proofs.Shows.{shows-classes}
use Rattle.index.proofs.class_for.Goals as goal

pub find-requires-clause-fits : goal.find-requires-clause-fits
find-requires-clause-fits c = search shows-classes

pub overflow_add-result : goal.overflow_add-result
overflow_add-result c = search shows-classes

pub offset_bounds-w-p : goal.offset_bounds-w-p
offset_bounds-w-p c = search shows-classes

pub bounds-w-p : goal.bounds-w-p
bounds-w-p c = search shows-classes

pub returns-in-Some : goal.returns-in-Some
returns-in-Some c = search shows-classes

pub returns-in-None : goal.returns-in-None
returns-in-None c = search shows-classes
