use Rattle.room.proofs.Laws.{sums}
use Rattle.room.proofs.room_for.Goals as goal

pub counted_of-requires : goal.counted_of-requires
counted_of-requires c = search sums

pub overflow_mul-result : goal.overflow_mul-result
overflow_mul-result c = search sums

pub overflow_add-result : goal.overflow_add-result
overflow_add-result c = search sums

pub counted_of-requires-2 : goal.counted_of-requires-2
counted_of-requires-2 c = search sums

pub overflow_mul-result-2 : goal.overflow_mul-result-2
overflow_mul-result-2 c = search sums

pub overflow_add-result-2 : goal.overflow_add-result-2
overflow_add-result-2 c = search sums

pub counted_of-requires-3 : goal.counted_of-requires-3
counted_of-requires-3 c = search sums

pub overflow_mul-result-3 : goal.overflow_mul-result-3
overflow_mul-result-3 c = search sums

pub overflow_add-result-3 : goal.overflow_add-result-3
overflow_add-result-3 c = search sums

pub counted_of-requires-4 : goal.counted_of-requires-4
counted_of-requires-4 c = search sums

pub overflow_mul-result-4 : goal.overflow_mul-result-4
overflow_mul-result-4 c = search sums

pub overflow_add-result-4 : goal.overflow_add-result-4
overflow_add-result-4 c = search sums

pub counted_of-requires-5 : goal.counted_of-requires-5
counted_of-requires-5 c = search sums

pub overflow_mul-result-5 : goal.overflow_mul-result-5
overflow_mul-result-5 c = search sums

pub overflow_add-result-5 : goal.overflow_add-result-5
overflow_add-result-5 c = search sums

pub returns : goal.returns
returns c = search sums
