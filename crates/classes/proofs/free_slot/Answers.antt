-- `classes::free_slot` meets its contract: the code's slots before the loop's are taken. Assumes nothing.
use Prim.Native.Nat.{◌-◌}
use Rattle.classes.proofs.Slots.{trying}
use Rattle.classes.proofs.free_slot.Goals as goal

pub end_slot-end-requires : goal.end_slot-end-requires
end_slot-end-requires c = search trying

pub first_slot-i-requires : goal.first_slot-i-requires
first_slot-i-requires c = search trying

pub loop-i-init : goal.loop-i-init
loop-i-init c = search trying

pub offset_bounds-index-i : goal.offset_bounds-index-i
offset_bounds-index-i c = search trying

pub bounds-index-i : goal.bounds-index-i
bounds-index-i c = search trying

pub returns-then-index-i-eq0 : goal.returns-then-index-i-eq0
returns-then-index-i-eq0 c = search trying

pub overflow_add-i : goal.overflow_add-i
overflow_add-i c = search trying

pub loop-i-smaller : goal.loop-i-smaller
loop-i-smaller c = search trying

pub loop-i-preserved : goal.loop-i-preserved
loop-i-preserved c = search trying

pub returns : goal.returns
returns c = search trying
