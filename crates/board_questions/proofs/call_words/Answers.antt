use Rattle.board_questions.proofs.Needs.{parts}
use Rattle.board_questions.proofs.call_words.Goals as goal

pub index_size-requires : goal.index_size-requires
index_size-requires c = search parts

pub offset_bounds-x-index_size : goal.offset_bounds-x-index_size
offset_bounds-x-index_size c = search parts

pub slice_bounds-result-count : goal.slice_bounds-result-count
slice_bounds-result-count c = search parts

pub slice_bounds-result-start : goal.slice_bounds-result-start
slice_bounds-result-start c = search parts

pub slice_bounds-result-end : goal.slice_bounds-result-end
slice_bounds-result-end c = search parts

pub returns : goal.returns
returns c = search parts
