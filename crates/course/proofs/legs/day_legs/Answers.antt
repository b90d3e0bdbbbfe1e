use Rattle.course.proofs.legs.Turn.{turn}
use Rattle.course.proofs.legs.day_legs.Goals as goal

pub no_legs-seen-requires : goal.no_legs-seen-requires
no_legs-seen-requires c = search turn

pub loop-i-init : goal.loop-i-init
loop-i-init c = search turn

pub offset_bounds-v-p : goal.offset_bounds-v-p
offset_bounds-v-p c = search turn

pub bounds-v-p : goal.bounds-v-p
bounds-v-p c = search turn

pub field_day-field-requires : goal.field_day-field-requires
field_day-field-requires c = search turn

pub returns-then-not-field : goal.returns-then-not-field
returns-then-not-field c = search turn

pub overflow_add-p : goal.overflow_add-p
overflow_add-p c = search turn

pub offset_bounds-v-p-in-loop-i : goal.offset_bounds-v-p-in-loop-i
offset_bounds-v-p-in-loop-i c = search turn

pub bounds-v-p-in-loop-i : goal.bounds-v-p-in-loop-i
bounds-v-p-in-loop-i c = search turn

pub overflow_add-p-in-loop-i : goal.overflow_add-p-in-loop-i
overflow_add-p-in-loop-i c = search turn

pub offset_bounds-v-p-in-loop-i-2 : goal.offset_bounds-v-p-in-loop-i-2
offset_bounds-v-p-in-loop-i-2 c = search turn

pub bounds-v-p-in-loop-i-2 : goal.bounds-v-p-in-loop-i-2
bounds-v-p-in-loop-i-2 c = search turn

pub with_range-seen-requires : goal.with_range-seen-requires
with_range-seen-requires c = search turn

pub overflow_add-p-in-loop-i-2 : goal.overflow_add-p-in-loop-i-2
overflow_add-p-in-loop-i-2 c = search turn

pub returns : goal.returns
returns c = search turn

pub loop-i-preserved : goal.loop-i-preserved
loop-i-preserved c = search turn
