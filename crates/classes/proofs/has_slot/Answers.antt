-- `classes::has_slot` meets its contract: the code's slots before the loop's are taken by other codes. Assumes nothing.
use Prim.Native.Nat.{◌-◌}
use Rattle.classes.proofs.Slots.{looking}
use Rattle.classes.proofs.has_slot.Goals as goal

pub end_slot-end-requires : goal.end_slot-end-requires
end_slot-end-requires c = search looking

pub first_slot-i-requires : goal.first_slot-i-requires
first_slot-i-requires c = search looking

pub loop-i-init : goal.loop-i-init
loop-i-init c = search looking

pub offset_bounds-index-i : goal.offset_bounds-index-i
offset_bounds-index-i c = search looking

pub bounds-index-i : goal.bounds-index-i
bounds-index-i c = search looking

pub returns-then-w-eq0 : goal.returns-then-w-eq0
returns-then-w-eq0 c = search looking

pub code_at-requires : goal.code_at-requires
code_at-requires c = search looking

pub returns-then-code_at-code : goal.returns-then-code_at-code
returns-then-code_at-code c = search looking

pub overflow_add-i : goal.overflow_add-i
overflow_add-i c = search looking

pub loop-i-smaller : goal.loop-i-smaller
loop-i-smaller c = search looking

pub loop-i-preserved : goal.loop-i-preserved
loop-i-preserved c = search looking

pub returns : goal.returns
returns c = search looking
