use Rattle.course.proofs.Laws.{course}
use Rattle.course.proofs.stretches_course.Goals as goal

pub bounds-s-6 : goal.bounds-s-6
bounds-s-6 c = search course

pub overflow_sub-legs : goal.overflow_sub-legs
overflow_sub-legs c = search course

pub returns-then-again-legs : goal.returns-then-again-legs
returns-then-again-legs c = search course

pub overflow_sub-end : goal.overflow_sub-end
overflow_sub-end c = search course

pub stretch_course-requires : goal.stretch_course-requires
stretch_course-requires c = search course

pub returns : goal.returns
returns c = search course
