use Rattle.indexing.proofs.Chains.{joined}
use Rattle.indexing.proofs.put_early.Goals as goal

pub field_section-requires : goal.field_section-requires
field_section-requires c = search joined

pub put_section-requires : goal.put_section-requires
put_section-requires c = search joined

pub stop_section-requires : goal.stop_section-requires
stop_section-requires c = search joined

pub put_section-requires-2 : goal.put_section-requires-2
put_section-requires-2 c = search joined

pub shape_of-x : goal.shape_of-x
shape_of-x c = search joined

pub returns : goal.returns
returns c = search joined
