use Rattle.plan_writing.proofs.Lines.{first}
use Rattle.plan_writing.proofs.put_first.Goals as goal

pub opening_at-o-requires : goal.opening_at-o-requires
opening_at-o-requires c = search first

pub put_opening-requires : goal.put_opening-requires
put_opening-requires c = search first

pub shape_of-text-then-o-eq-KIND_Z : goal.shape_of-text-then-o-eq-KIND_Z
shape_of-text-then-o-eq-KIND_Z c = search first

pub returns-then-o-eq-KIND_Z : goal.returns-then-o-eq-KIND_Z
returns-then-o-eq-KIND_Z c = search first

pub put_frequency-requires : goal.put_frequency-requires
put_frequency-requires c = search first

pub shape_of-text : goal.shape_of-text
shape_of-text c = search first

pub returns : goal.returns
returns c = search first
