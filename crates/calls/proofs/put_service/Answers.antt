use Rattle.calls.proofs.Entered.{serves}
use Rattle.calls.proofs.put_service.Goals as goal

pub calls_at-c-requires : goal.calls_at-c-requires
calls_at-c-requires c = search serves

pub put_route-requires : goal.put_route-requires
put_route-requires c = search serves

pub shape_of-x : goal.shape_of-x
shape_of-x c = search serves

pub returns : goal.returns
returns c = search serves
