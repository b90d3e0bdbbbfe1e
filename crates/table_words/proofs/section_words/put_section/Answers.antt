-- `section_words::put_section` meets its contract: to write the words of the lines from the loop's place on gives what is to be written in all.
-- Assumes nothing.
use Prim.Native.Nat.{◌-◌}
use native.Mathlib.Omega.{arith}
use Rattle.table_words.proofs.section_words.Puts.{section-puts, empty-puts}
use Rattle.table_words.proofs.section_words.put_section.Goals as goal

pub loop-at-init : goal.loop-at-init
loop-at-init c = search section-puts

pub bounds-f-at : goal.bounds-f-at
bounds-f-at c = search section-puts

pub overflow_add-at : goal.overflow_add-at
overflow_add-at c = search section-puts

pub overflow_add-no : goal.overflow_add-no
overflow_add-no c = search section-puts

pub loop-at-smaller-then-f-at-eq10 : goal.loop-at-smaller-then-f-at-eq10
loop-at-smaller-then-f-at-eq10 c = search section-puts

pub loop-at-preserved-then-f-at-eq10 : goal.loop-at-preserved-then-f-at-eq10
loop-at-preserved-then-f-at-eq10 c = (omega arith, search empty-puts, search empty-puts, search empty-puts, search empty-puts)

pub bounds-f-at-in-loop-at : goal.bounds-f-at-in-loop-at
bounds-f-at-in-loop-at c = search section-puts

pub past_skipped-past-requires : goal.past_skipped-past-requires
past_skipped-past-requires c = search empty-puts

pub overflow_add-no-then-at-past : goal.overflow_add-no-then-at-past
overflow_add-no-then-at-past c = search section-puts

pub line_from-cut-requires : goal.line_from-cut-requires
line_from-cut-requires c = search section-puts

pub slice_bounds-put_line-count : goal.slice_bounds-put_line-count
slice_bounds-put_line-count c = search section-puts

pub slice_bounds-put_line-start : goal.slice_bounds-put_line-start
slice_bounds-put_line-start c = search section-puts

pub slice_bounds-put_line-end : goal.slice_bounds-put_line-end
slice_bounds-put_line-end c = search section-puts

pub shape_of-t : goal.shape_of-t
shape_of-t c = search section-puts

pub returns : goal.returns
returns c = search section-puts

pub loop-at-preserved-then-at-past : goal.loop-at-preserved-then-at-past
loop-at-preserved-then-at-past c = (omega arith, search empty-puts, search empty-puts, search empty-puts, search empty-puts)

pub loop-at-smaller : goal.loop-at-smaller
loop-at-smaller c = search section-puts

pub put_line-q-requires-clause-text_value : goal.put_line-q-requires-clause-text_value
put_line-q-requires-clause-text_value c = search section-puts

pub put_line-q-requires-clause-text_in_bounds : goal.put_line-q-requires-clause-text_in_bounds
put_line-q-requires-clause-text_in_bounds c = search section-puts

pub loop-at-preserved : goal.loop-at-preserved
loop-at-preserved c = search section-puts
