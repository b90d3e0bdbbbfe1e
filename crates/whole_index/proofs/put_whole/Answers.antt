use Rattle.whole_index.proofs.Answers.{parts}
use Rattle.whole_index.proofs.put_whole.Goals as goal

pub put_index-requires : goal.put_index-requires
put_index-requires c = search parts

pub offset_bounds-x-from : goal.offset_bounds-x-from
offset_bounds-x-from c = search parts

pub slice_bounds-put_marked-count : goal.slice_bounds-put_marked-count
slice_bounds-put_marked-count c = search parts

pub slice_bounds-put_marked-start : goal.slice_bounds-put_marked-start
slice_bounds-put_marked-start c = search parts

pub slice_bounds-put_marked-end : goal.slice_bounds-put_marked-end
slice_bounds-put_marked-end c = search parts

pub put_marked-requires : goal.put_marked-requires
put_marked-requires c = search parts

pub shape_of-x : goal.shape_of-x
shape_of-x c = search parts

pub returns : goal.returns
returns c = search parts
