use Rattle.lines.proofs.reader.Skipping.{passing}
use Rattle.lines.proofs.reader.past_skipped.Goals as goal

pub line_beyond-cut-requires : goal.line_beyond-cut-requires
line_beyond-cut-requires c = search passing

pub slice_bounds-skips-count : goal.slice_bounds-skips-count
slice_bounds-skips-count c = search passing

pub slice_bounds-skips-start : goal.slice_bounds-skips-start
slice_bounds-skips-start c = search passing

pub slice_bounds-skips-end : goal.slice_bounds-skips-end
slice_bounds-skips-end c = search passing

pub returns-then-skips : goal.returns-then-skips
returns-then-skips c = search passing

pub returns : goal.returns
returns c = search passing
