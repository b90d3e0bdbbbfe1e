use Rattle.std.proofs.lemmas.Result.{err_from_is_err_and}
use Rattle.course.proofs.Turn.{turn}
use Rattle.course.proofs.course_on.Goals as goal

pub day_words-v-requires : goal.day_words-v-requires
day_words-v-requires c = search turn

pub bounds-s-8 : goal.bounds-s-8
bounds-s-8 c = search turn

pub bounds-s-6 : goal.bounds-s-6
bounds-s-6 c = search turn

pub overflow_sub-s : goal.overflow_sub-s
overflow_sub-s c = search turn

pub in_turn-requires : goal.in_turn-requires
in_turn-requires c = search turn

pub leg_course-requires : goal.leg_course-requires
leg_course-requires c = search turn

pub returns-then-not-in_turn : goal.returns-then-not-in_turn
returns-then-not-in_turn c = search turn

pub day_legs-requires : goal.day_legs-requires
day_legs-requires c = search turn

pub returns-in_err-day : goal.returns-in_err-day
returns-in_err-day c =
    let p = err_from_is_err_and c.from_residual.result c.from_residual.ensures.1 in
    rw (p.1, p.2) (search (turn, c.in_err-day.was))

pub stretches_course-requires : goal.stretches_course-requires
stretches_course-requires c = search (turn, c.in_ok-day.was)

pub returns : goal.returns
returns c = search (turn, c.in_ok-day.was)
