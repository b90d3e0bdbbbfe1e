use Rattle.calls.proofs.Entered.{makes}
use Rattle.calls.proofs.put_calls.Goals as goal

pub bounds-w-0 : goal.bounds-w-0
bounds-w-0 c = search makes

pub count-end-requires : goal.count-end-requires
count-end-requires c = search makes

pub put_none-requires : goal.put_none-requires
put_none-requires c = search makes

pub put_services-requires : goal.put_services-requires
put_services-requires c = search makes

pub shape_of-x : goal.shape_of-x
shape_of-x c = search makes

pub returns : goal.returns
returns c = search makes
