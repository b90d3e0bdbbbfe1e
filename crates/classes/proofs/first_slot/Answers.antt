use Rattle.classes.proofs.Slots.{slotting}
use Rattle.classes.proofs.first_slot.Goals as goal

pub overflow_sub-words : goal.overflow_sub-words
overflow_sub-words c = search slotting

pub overflow_sub-words-2 : goal.overflow_sub-words-2
overflow_sub-words-2 c = search slotting

pub bucket-requires : goal.bucket-requires
bucket-requires c = search slotting

pub overflow_add-result : goal.overflow_add-result
overflow_add-result c = search slotting

pub returns : goal.returns
returns c = search slotting
