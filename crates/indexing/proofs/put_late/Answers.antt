use Rattle.indexing.proofs.Chains.{joined}
use Rattle.indexing.proofs.put_late.Goals as goal

pub interchange_section-requires : goal.interchange_section-requires
interchange_section-requires c = search joined

pub put_section-requires : goal.put_section-requires
put_section-requires c = search joined

pub class_section-requires : goal.class_section-requires
class_section-requires c = search joined

pub put_section-requires-2 : goal.put_section-requires-2
put_section-requires-2 c = search joined

pub shape_of-x : goal.shape_of-x
shape_of-x c = search joined

pub returns : goal.returns
returns c = search joined
