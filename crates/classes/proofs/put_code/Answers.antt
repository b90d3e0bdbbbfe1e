use Rattle.classes.proofs.Slots.{putting}
use Rattle.classes.proofs.put_code.Goals as goal

pub free_slot-i-requires : goal.free_slot-i-requires
free_slot-i-requires c = search putting

pub end_slot-requires : goal.end_slot-requires
end_slot-requires c = search putting

pub overflow_add-index : goal.overflow_add-index
overflow_add-index c = search putting

pub overflow_cast-index : goal.overflow_cast-index
overflow_cast-index c = search putting

pub offset_bounds-index-i : goal.offset_bounds-index-i
offset_bounds-index-i c = search putting

pub bounds-index-i : goal.bounds-index-i
bounds-index-i c = search putting

pub shape_of-index-then-i-end_slot : goal.shape_of-index-then-i-end_slot
shape_of-index-then-i-end_slot c = search putting

pub returns-then-i-end_slot : goal.returns-then-i-end_slot
returns-then-i-end_slot c = search putting

pub shape_of-index : goal.shape_of-index
shape_of-index c = search putting

pub returns : goal.returns
returns c = search putting
