use Rattle.told.proofs.Times.{timed}
use Rattle.told.proofs.flags_in.Goals as goal

pub overflow_mul-result : goal.overflow_mul-result
overflow_mul-result c = search timed

pub overflow_add-result : goal.overflow_add-result
overflow_add-result c = search timed

pub overflow_cast-result : goal.overflow_cast-result
overflow_cast-result c = search timed

pub returns : goal.returns
returns c = search timed
