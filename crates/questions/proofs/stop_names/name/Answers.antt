use Rattle.questions.proofs.stop_names.Laws.{plain}
use Rattle.questions.proofs.stop_names.name.Goals as goal

pub is_table-requires : goal.is_table-requires
is_table-requires c = search plain

pub returns-then-not-is_table : goal.returns-then-not-is_table
returns-then-not-is_table c = search plain

pub used_words-requires : goal.used_words-requires
used_words-requires c = search plain

pub slice_bounds-name_by-count : goal.slice_bounds-name_by-count
slice_bounds-name_by-count c = search plain

pub slice_bounds-name_by-start : goal.slice_bounds-name_by-start
slice_bounds-name_by-start c = search plain

pub slice_bounds-name_by-end : goal.slice_bounds-name_by-end
slice_bounds-name_by-end c = search plain

pub name_by-requires : goal.name_by-requires
name_by-requires c = search plain

pub returns : goal.returns
returns c = search plain
