use Rattle.classes.proofs.Marks.{marking}
use Rattle.classes.proofs.repeats.Goals as goal

pub mark-requires : goal.mark-requires
mark-requires c = search marking

pub shape_of-marks-then-code-b : goal.shape_of-marks-then-code-b
shape_of-marks-then-code-b c = search marking

pub returns-then-code-b : goal.returns-then-code-b
returns-then-code-b c = search marking

pub returns : goal.returns
returns c = search marking
