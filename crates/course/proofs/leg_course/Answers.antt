use Rattle.std.proofs.lemmas.Result.{err_from_is_err_and}
use Rattle.course.proofs.Laws.{course}
use Rattle.course.proofs.leg_course.Goals as goal

pub bounds-s-6 : goal.bounds-s-6
bounds-s-6 c = search course

pub overflow_sub-s : goal.overflow_sub-s
overflow_sub-s c = search course

pub legs_refusal-requires : goal.legs_refusal-requires
legs_refusal-requires c = search course

pub returns-in_err-legs_refusal : goal.returns-in_err-legs_refusal
returns-in_err-legs_refusal c =
    let p = err_from_is_err_and c.from_residual.result c.from_residual.ensures.1 in
    rw (p.1, p.2) (search (course, c.in_err-legs_refusal.was))

pub day_course-requires : goal.day_course-requires
day_course-requires c = search course

pub returns : goal.returns
returns c = search (course, c.in_ok-legs_refusal.was)
