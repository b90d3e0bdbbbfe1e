use Rattle.table.proofs.Records.{classes}
use Rattle.table.proofs.classes_sound.Goals as goal

pub bounds-w-0 : goal.bounds-w-0
bounds-w-0 c = search classes

pub slice_bounds-classes_within-end : goal.slice_bounds-classes_within-end
slice_bounds-classes_within-end c = search classes

pub bounds-w-8 : goal.bounds-w-8
bounds-w-8 c = search classes

pub classes_within-requires : goal.classes_within-requires
classes_within-requires c = search classes

pub returns : goal.returns
returns c = search classes
