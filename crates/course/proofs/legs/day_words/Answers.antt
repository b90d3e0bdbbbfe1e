use Rattle.course.proofs.legs.Legs.{leg}
use Rattle.course.proofs.legs.day_words.Goals as goal

pub day_place-requires : goal.day_place-requires
day_place-requires c = search leg

pub offset_bounds-s-day_place : goal.offset_bounds-s-day_place
offset_bounds-s-day_place c = search leg

pub slice_bounds-result-count : goal.slice_bounds-result-count
slice_bounds-result-count c = search leg

pub slice_bounds-result-start : goal.slice_bounds-result-start
slice_bounds-result-start c = search leg

pub slice_bounds-result-end : goal.slice_bounds-result-end
slice_bounds-result-end c = search leg

pub returns : goal.returns
returns c = search leg
