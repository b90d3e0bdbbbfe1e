use Rattle.classes.proofs.Marks.{marking}
use Rattle.classes.proofs.mark.Goals as goal

pub overflow_cast-i : goal.overflow_cast-i
overflow_cast-i c = search marking

pub offset_bounds-marks-i : goal.offset_bounds-marks-i
offset_bounds-marks-i c = search marking

pub bounds-marks-i : goal.bounds-marks-i
bounds-marks-i c = search marking

pub overflow_shl-marks : goal.overflow_shl-marks
overflow_shl-marks c = search marking

pub offset_bounds-marks-i-2 : goal.offset_bounds-marks-i-2
offset_bounds-marks-i-2 c = search marking

pub bounds-marks-i-2 : goal.bounds-marks-i-2
bounds-marks-i-2 c = search marking

pub overflow_shr-result : goal.overflow_shr-result
overflow_shr-result c = search marking

pub shape_of-marks : goal.shape_of-marks
shape_of-marks c = search marking

pub returns : goal.returns
returns c = search marking
