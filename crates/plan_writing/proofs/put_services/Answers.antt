use native.Mathlib.Nat.{sub-zero}
use Rattle.plan_writing.proofs.Services.{services}
use Rattle.plan_writing.proofs.put_services.Goals as goal

pub bounds-w-7 : goal.bounds-w-7
bounds-w-7 c = search services

pub size-at-requires : goal.size-at-requires
size-at-requires c = search services

pub bounds-w-6 : goal.bounds-w-6
bounds-w-6 c = search services

pub loop-init : goal.loop-init
loop-init c = rw sub-zero (search services)

pub offset_bounds-w-at : goal.offset_bounds-w-at
offset_bounds-w-at c = search services

pub slice_bounds-put_service-count : goal.slice_bounds-put_service-count
slice_bounds-put_service-count c = search services

pub slice_bounds-put_service-start : goal.slice_bounds-put_service-start
slice_bounds-put_service-start c = search services

pub slice_bounds-put_service-end : goal.slice_bounds-put_service-end
slice_bounds-put_service-end c = search services

pub put_service-q-requires : goal.put_service-q-requires
put_service-q-requires c = search services

pub offset_bounds-w-at-in-loop : goal.offset_bounds-w-at-in-loop
offset_bounds-w-at-in-loop c = search services

pub bounds-w-at : goal.bounds-w-at
bounds-w-at c = search services

pub size-at-requires-in-loop : goal.size-at-requires-in-loop
size-at-requires-in-loop c = search services

pub overflow_add-at : goal.overflow_add-at
overflow_add-at c = search services

pub loop-preserved : goal.loop-preserved
loop-preserved c = (search services, search services, search services, search services, search services)

pub shape_of-text : goal.shape_of-text
shape_of-text c = search services

pub returns : goal.returns
returns c = search services
