use Rattle.questions.proofs.Laws.{plain}
use Rattle.questions.proofs.between.Goals as goal

pub is_table-requires : goal.is_table-requires
is_table-requires c = search plain

pub returns-then-not-is_table : goal.returns-then-not-is_table
returns-then-not-is_table c = search plain

pub used_words-requires : goal.used_words-requires
used_words-requires c = search plain

pub slice_bounds-between_by-count : goal.slice_bounds-between_by-count
slice_bounds-between_by-count c = search plain

pub slice_bounds-between_by-start : goal.slice_bounds-between_by-start
slice_bounds-between_by-start c = search plain

pub slice_bounds-between_by-end : goal.slice_bounds-between_by-end
slice_bounds-between_by-end c = search plain

pub between_by-requires : goal.between_by-requires
between_by-requires c = search plain

pub returns : goal.returns
returns c = search plain
