use Rattle.course.proofs.rows.Record.{held}
use Rattle.course.proofs.rows.category_words.Goals as goal

pub category_place-requires : goal.category_place-requires
category_place-requires c = search held

pub offset_bounds-s-category_place : goal.offset_bounds-s-category_place
offset_bounds-s-category_place c = search held

pub slice_bounds-result-count : goal.slice_bounds-result-count
slice_bounds-result-count c = search held

pub slice_bounds-result-start : goal.slice_bounds-result-start
slice_bounds-result-start c = search held

pub slice_bounds-result-end : goal.slice_bounds-result-end
slice_bounds-result-end c = search held

pub returns : goal.returns
returns c = search held
