use Rattle.walk.proofs.Along.{stretch}
use Rattle.walk.proofs.list.Goals as goal

pub overflow_cast-needed : goal.overflow_cast-needed
overflow_cast-needed c = search stretch

pub overflow_add-needed : goal.overflow_add-needed
overflow_add-needed c = search stretch

pub overflow_mul-needed : goal.overflow_mul-needed
overflow_mul-needed c = search stretch

pub size-requires : goal.size-requires
size-requires c = search stretch

pub returns-then-rows-size : goal.returns-then-rows-size
returns-then-rows-size c = search stretch

pub opening_at-requires : goal.opening_at-requires
opening_at-requires c = search stretch

pub lateness-late-requires : goal.lateness-late-requires
lateness-late-requires c = search stretch

pub overflow_add-result : goal.overflow_add-result
overflow_add-result c = search stretch

pub shape_of-rows : goal.shape_of-rows
shape_of-rows c = search stretch

pub returns : goal.returns
returns c = search stretch
