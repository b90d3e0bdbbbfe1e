-- `sections::check_section` meets its contract: what the lines from the loop's place on answer, after those before it, is what all answer,
-- and those before it are in the map. Assumes nothing.
use Rattle.sections.proofs.Scans.{scans, walked}
use Rattle.sections.proofs.Fills.{fills}
use Rattle.sections.proofs.check_section.Goals as goal

pub loop-at-init : goal.loop-at-init
loop-at-init c = (search scans, search scans, search scans, search fills)

pub overflow_add-no : goal.overflow_add-no
overflow_add-no c = search scans

pub loop-at-preserved-then-f-at-eq10 : goal.loop-at-preserved-then-f-at-eq10
loop-at-preserved-then-f-at-eq10 c = (search scans, search scans, search scans, search fills)

pub overflow_add-no-then-at-past : goal.overflow_add-no-then-at-past
overflow_add-no-then-at-past c = search scans

pub loop-at-preserved-then-at-past : goal.loop-at-preserved-then-at-past
loop-at-preserved-then-at-past c = (search scans, search scans, search scans, search fills)

pub line_from-cut-requires-clause-no_bound : goal.line_from-cut-requires-clause-no_bound
line_from-cut-requires-clause-no_bound c = search scans

pub slice_bounds-text-count : goal.slice_bounds-text-count
slice_bounds-text-count c = search scans

pub slice_bounds-text-start : goal.slice_bounds-text-start
slice_bounds-text-start c = search scans

pub slice_bounds-text-end : goal.slice_bounds-text-end
slice_bounds-text-end c = search scans

pub returns-in_err-line_verdict-clause-value : goal.returns-in_err-line_verdict-clause-value
returns-in_err-line_verdict-clause-value c = search scans

pub put_number-count-requires : goal.put_number-count-requires
put_number-count-requires c = search fills

pub loop-at-smaller : goal.loop-at-smaller
loop-at-smaller c = search walked

pub loop-at-preserved : goal.loop-at-preserved
loop-at-preserved c = (search scans, search scans, search (scans, c.in_ok-line_verdict.was), search fills)

pub returns-clause-value : goal.returns-clause-value
returns-clause-value c = search scans
