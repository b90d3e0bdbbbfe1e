use Rattle.course.proofs.Laws.{course}
use Rattle.course.proofs.day_course.Goals as goal

pub bounds-s-6 : goal.bounds-s-6
bounds-s-6 c = search course

pub overflow_sub-legs : goal.overflow_sub-legs
overflow_sub-legs c = search course

pub next_leg-start-requires : goal.next_leg-start-requires
next_leg-start-requires c = search course

pub next_leg-end-requires : goal.next_leg-end-requires
next_leg-end-requires c = search course

pub next_leg-again-requires : goal.next_leg-again-requires
next_leg-again-requires c = search course

pub stretches_course-requires : goal.stretches_course-requires
stretches_course-requires c = search course

pub returns : goal.returns
returns c = search course
