use Rattle.course.proofs.rows.Times.{follows}
use Rattle.course.proofs.rows.calls_refusal.Goals as goal

pub category_words-g-requires : goal.category_words-g-requires
category_words-g-requires c = search follows

pub bounds-s-7 : goal.bounds-s-7
bounds-s-7 c = search follows

pub bounds-s-6 : goal.bounds-s-6
bounds-s-6 c = search follows

pub overflow_sub-s : goal.overflow_sub-s
overflow_sub-s c = search follows

pub in_turn-requires : goal.in_turn-requires
in_turn-requires c = search follows

pub first_refusal-requires : goal.first_refusal-requires
first_refusal-requires c = search follows

pub returns-then-not-in_turn : goal.returns-then-not-in_turn
returns-then-not-in_turn c = search follows

pub times_stand-requires : goal.times_stand-requires
times_stand-requires c = search follows

pub first_refusal-requires-then-not-times_stand : goal.first_refusal-requires-then-not-times_stand
first_refusal-requires-then-not-times_stand c = search follows

pub returns-then-not-times_stand : goal.returns-then-not-times_stand
returns-then-not-times_stand c = search follows

pub returns : goal.returns
returns c = search follows
