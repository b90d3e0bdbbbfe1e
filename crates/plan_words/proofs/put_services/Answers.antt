use Prim.Native.Nat.{◌-◌}
use Rattle.plan_words.proofs.Putting.{putting}
use Rattle.plan_words.proofs.put_services.Goals as goal

pub loop-place-init : goal.loop-place-init
loop-place-init c = (search putting, search putting, search putting, search putting, search putting, search putting, search putting, search putting, search putting, search putting, search putting)

pub overflow_cast-to : goal.overflow_cast-to
overflow_cast-to c = search putting

pub overflow_add-to : goal.overflow_add-to
overflow_add-to c = search putting

pub loop-place-smaller : goal.loop-place-smaller
loop-place-smaller c = search putting

pub loop-place-preserved : goal.loop-place-preserved
loop-place-preserved c = (search putting, search putting, search putting, search putting, search putting, search putting, search putting, search putting, search putting, search putting, search putting)

pub shape_of-calls : goal.shape_of-calls
shape_of-calls c = search putting

pub shape_of-ranges : goal.shape_of-ranges
shape_of-ranges c = search putting

pub shape_of-table : goal.shape_of-table
shape_of-table c = search putting

pub returns : goal.returns
returns c = search putting

pub put_service-put-requires-clause-sound : goal.put_service-put-requires-clause-sound
put_service-put-requires-clause-sound c = search putting

pub put_service-put-requires-clause-no_in_bounds : goal.put_service-put-requires-clause-no_in_bounds
put_service-put-requires-clause-no_in_bounds c = search putting
