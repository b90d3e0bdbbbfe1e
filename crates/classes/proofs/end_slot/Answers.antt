use Rattle.classes.proofs.Slots.{slotting}
use Rattle.classes.proofs.end_slot.Goals as goal

pub first_slot-end-requires : goal.first_slot-end-requires
first_slot-end-requires c = search slotting

pub overflow_add-end : goal.overflow_add-end
overflow_add-end c = search slotting

pub returns-then-end-words : goal.returns-then-end-words
returns-then-end-words c = search slotting

pub returns-else-end-words : goal.returns-else-end-words
returns-else-end-words c = search slotting
