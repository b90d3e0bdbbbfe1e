use Rattle.calls.proofs.Entered.{makes}
use Rattle.calls.proofs.put_none.Goals as goal

pub bounds-w-4 : goal.bounds-w-4
bounds-w-4 c = search makes

pub size-stops-requires : goal.size-stops-requires
size-stops-requires c = search makes

pub clear-requires : goal.clear-requires
clear-requires c = search makes

pub shape_of-x : goal.shape_of-x
shape_of-x c = search makes

pub returns : goal.returns
returns c = search makes
