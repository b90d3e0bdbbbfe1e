use native.Mathlib.Nat.{sub-zero}
use Rattle.service_lines.proofs.Parts.{ranges}
use Rattle.service_lines.proofs.ranges_writable.Goals as goal

pub part_place-p-requires : goal.part_place-p-requires
part_place-p-requires c = search ranges

pub loop-init : goal.loop-init
loop-init c = rw sub-zero (search ranges)

pub range_writable-requires : goal.range_writable-requires
range_writable-requires c = search ranges

pub returns-then-not-range_writable : goal.returns-then-not-range_writable
returns-then-not-range_writable c = search ranges

pub range_words-p-requires : goal.range_words-p-requires
range_words-p-requires c = search ranges

pub overflow_add-p : goal.overflow_add-p
overflow_add-p c = search ranges

pub loop-preserved : goal.loop-preserved
loop-preserved c = search ranges

pub returns : goal.returns
returns c = search ranges
