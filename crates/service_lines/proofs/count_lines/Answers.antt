use native.Mathlib.Nat.{sub-zero}
use native.Mathlib.Omega.{arith}
use Rattle.service_lines.proofs.Services.{counted}
use Rattle.service_lines.proofs.count_lines.Goals as goal

pub bounds-w-6 : goal.bounds-w-6
bounds-w-6 c = search counted

pub bounds-w-7 : goal.bounds-w-7
bounds-w-7 c = search counted

pub size-at-requires : goal.size-at-requires
size-at-requires c = search counted

pub loop-init : goal.loop-init
loop-init c = rw sub-zero (search counted, omega arith, search counted, search counted)

pub offset_bounds-w-at : goal.offset_bounds-w-at
offset_bounds-w-at c = search counted

pub slice_bounds-lines_of-count : goal.slice_bounds-lines_of-count
slice_bounds-lines_of-count c = search counted

pub slice_bounds-lines_of-start : goal.slice_bounds-lines_of-start
slice_bounds-lines_of-start c = search counted

pub slice_bounds-lines_of-end : goal.slice_bounds-lines_of-end
slice_bounds-lines_of-end c = search counted

pub lines_of-n-requires : goal.lines_of-n-requires
lines_of-n-requires c = search counted

pub overflow_add-n : goal.overflow_add-n
overflow_add-n c = search counted

pub offset_bounds-w-at-in-loop : goal.offset_bounds-w-at-in-loop
offset_bounds-w-at-in-loop c = search counted

pub bounds-w-at : goal.bounds-w-at
bounds-w-at c = search counted

pub size-at-requires-in-loop : goal.size-at-requires-in-loop
size-at-requires-in-loop c = search counted

pub overflow_add-at : goal.overflow_add-at
overflow_add-at c = search counted

pub loop-preserved : goal.loop-preserved
loop-preserved c = (search counted, omega arith, search counted, search counted)

pub returns-clause-value : goal.returns-clause-value
returns-clause-value c = search counted
