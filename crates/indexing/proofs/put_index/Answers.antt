use Rattle.indexing.proofs.Chains.{whole}
use Rattle.indexing.proofs.put_index.Goals as goal

pub put_early-requires : goal.put_early-requires
put_early-requires c = search whole

pub put_late-requires : goal.put_late-requires
put_late-requires c = search whole

pub services_from-requires : goal.services_from-requires
services_from-requires c = search whole

pub put_places-requires : goal.put_places-requires
put_places-requires c = search whole

pub shape_of-x : goal.shape_of-x
shape_of-x c = search whole

pub returns : goal.returns
returns c = search whole
