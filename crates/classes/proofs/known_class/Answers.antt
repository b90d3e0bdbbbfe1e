use Rattle.classes.proofs.Slots.{knowing}
use Rattle.classes.proofs.known_class.Goals as goal

pub has_slot-requires : goal.has_slot-requires
has_slot-requires c = search knowing

pub returns-then-has_slot : goal.returns-then-has_slot
returns-then-has_slot c = search knowing

pub bounds-index-0 : goal.bounds-index-0
bounds-index-0 c = search knowing

pub overflow_cast-index : goal.overflow_cast-index
overflow_cast-index c = search knowing

pub has_class-requires : goal.has_class-requires
has_class-requires c = search knowing

pub returns : goal.returns
returns c = search knowing
