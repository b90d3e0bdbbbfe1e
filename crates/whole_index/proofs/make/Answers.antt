use Rattle.whole_index.proofs.Answers.{makes}
use Rattle.whole_index.proofs.make.Goals as goal

pub index_size-from-requires : goal.index_size-from-requires
index_size-from-requires c = search makes

pub marked_size-requires : goal.marked_size-requires
marked_size-requires c = search makes

pub overflow_add-needed : goal.overflow_add-needed
overflow_add-needed c = search makes

pub returns-then-x-needed : goal.returns-then-x-needed
returns-then-x-needed c = search makes

pub shape_of-x : goal.shape_of-x
shape_of-x c = search makes

pub returns : goal.returns
returns c = search makes
