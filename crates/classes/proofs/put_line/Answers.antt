use Rattle.classes.proofs.Slots.{putting}
use Rattle.classes.proofs.put_line.Goals as goal

pub skips-requires : goal.skips-requires
skips-requires c = search putting

pub returns-then-skips : goal.returns-then-skips
returns-then-skips c = search putting

pub code_on-requires : goal.code_on-requires
code_on-requires c = search putting

pub put_code-requires : goal.put_code-requires
put_code-requires c = search putting

pub shape_of-index : goal.shape_of-index
shape_of-index c = search putting

pub returns : goal.returns
returns c = search putting
