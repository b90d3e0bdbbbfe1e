use native.Mathlib.Nat.{sub-zero}
use Rattle.service_lines.proofs.Services.{services}
use Rattle.service_lines.proofs.services_writable.Goals as goal

pub bounds-w-7 : goal.bounds-w-7
bounds-w-7 c = search services

pub size-at-requires : goal.size-at-requires
size-at-requires c = search services

pub bounds-w-6 : goal.bounds-w-6
bounds-w-6 c = search services

pub loop-init : goal.loop-init
loop-init c = rw sub-zero (search services)

pub offset_bounds-w-at : goal.offset_bounds-w-at
offset_bounds-w-at c = search services

pub slice_bounds-service_writable-count : goal.slice_bounds-service_writable-count
slice_bounds-service_writable-count c = search services

pub slice_bounds-service_writable-start : goal.slice_bounds-service_writable-start
slice_bounds-service_writable-start c = search services

pub slice_bounds-service_writable-end : goal.slice_bounds-service_writable-end
slice_bounds-service_writable-end c = search services

pub service_writable-requires : goal.service_writable-requires
service_writable-requires c = search services

pub returns-then-not-service_writable : goal.returns-then-not-service_writable
returns-then-not-service_writable c = search services

pub offset_bounds-w-at-in-loop : goal.offset_bounds-w-at-in-loop
offset_bounds-w-at-in-loop c = search services

pub bounds-w-at : goal.bounds-w-at
bounds-w-at c = search services

pub size-at-requires-in-loop : goal.size-at-requires-in-loop
size-at-requires-in-loop c = search services

pub overflow_add-at : goal.overflow_add-at
overflow_add-at c = search services

pub loop-preserved : goal.loop-preserved
loop-preserved c = search services

pub returns : goal.returns
returns c = search services
