use Rattle.course.proofs.Laws.{course}
use Rattle.course.proofs.service_course.Goals as goal

pub opening_at-requires : goal.opening_at-requires
opening_at-requires c = search course

pub has_run-requires : goal.has_run-requires
has_run-requires c = search course

pub returns-then-not-has_run : goal.returns-then-not-has_run
returns-then-not-has_run c = search course

pub course_on-requires : goal.course_on-requires
course_on-requires c = search course

pub returns : goal.returns
returns c = search course
