use native.Mathlib.Nat.{sub-zero}
use Rattle.plan_writing.proofs.Lines.{ranges}
use Rattle.plan_writing.proofs.put_ranges.Goals as goal

pub part_place-p-requires : goal.part_place-p-requires
part_place-p-requires c = search ranges

pub loop-init : goal.loop-init
loop-init c = rw sub-zero (search ranges)

pub put_range-requires : goal.put_range-requires
put_range-requires c = search ranges

pub range_words-p-requires : goal.range_words-p-requires
range_words-p-requires c = search ranges

pub overflow_add-p : goal.overflow_add-p
overflow_add-p c = search ranges

pub overflow_add-q : goal.overflow_add-q
overflow_add-q c = search ranges

pub loop-preserved : goal.loop-preserved
loop-preserved c = (search ranges, search ranges, search ranges, search ranges)

pub shape_of-text : goal.shape_of-text
shape_of-text c = search ranges

pub returns-clause-bytes : goal.returns-clause-bytes
returns-clause-bytes c = search ranges
