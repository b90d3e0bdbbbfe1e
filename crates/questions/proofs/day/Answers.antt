use Rattle.questions.proofs.Laws.{plain}
use Rattle.questions.proofs.day.Goals as goal

pub is_table-requires : goal.is_table-requires
is_table-requires c = search plain

pub returns-then-not-is_table : goal.returns-then-not-is_table
returns-then-not-is_table c = search plain

pub used_words-requires : goal.used_words-requires
used_words-requires c = search plain

pub slice_bounds-day_by-count : goal.slice_bounds-day_by-count
slice_bounds-day_by-count c = search plain

pub slice_bounds-day_by-start : goal.slice_bounds-day_by-start
slice_bounds-day_by-start c = search plain

pub slice_bounds-day_by-end : goal.slice_bounds-day_by-end
slice_bounds-day_by-end c = search plain

pub day_by-requires : goal.day_by-requires
day_by-requires c = search plain

pub returns : goal.returns
returns c = search plain
