use native.Mathlib.Omega.{arith}
use Rattle.index_check.proofs.Places.{places}
use Rattle.index_check.proofs.places_right.Goals as goal

pub bounds-w-7 : goal.bounds-w-7
bounds-w-7 c = search places

pub bounds-w-6 : goal.bounds-w-6
bounds-w-6 c = search places

pub loop-k-init : goal.loop-k-init
loop-k-init c = search places

pub offset_bounds-x-at : goal.offset_bounds-x-at
offset_bounds-x-at c = search places

pub bounds-x-at : goal.bounds-x-at
bounds-x-at c = search places

pub returns-then-x-at : goal.returns-then-x-at
returns-then-x-at c = search places

pub next_place-p-requires : goal.next_place-p-requires
next_place-p-requires c = search places

pub overflow_add-at : goal.overflow_add-at
overflow_add-at c = search places

pub overflow_sub-k : goal.overflow_sub-k
overflow_sub-k c = search places

pub loop-k-smaller : goal.loop-k-smaller
loop-k-smaller c = search places

pub loop-k-preserved : goal.loop-k-preserved
loop-k-preserved c = (omega arith, search places, search places)

pub returns : goal.returns
returns c = search places
