use Rattle.course.proofs.rows.Times.{stand}
use Rattle.course.proofs.rows.times_stand.Goals as goal

pub returns-then-legs-eq0 : goal.returns-then-legs-eq0
returns-then-legs-eq0 c = search stand

pub call_of-first-requires : goal.call_of-first-requires
call_of-first-requires c = search stand

pub has_departure-requires : goal.has_departure-requires
has_departure-requires c = search stand

pub returns-then-not-has_departure : goal.returns-then-not-has_departure
returns-then-not-has_departure c = search stand

pub overflow_add-start : goal.overflow_add-start
overflow_add-start c = search stand

pub overflow_sub-legs : goal.overflow_sub-legs
overflow_sub-legs c = search stand

pub later_stand-requires : goal.later_stand-requires
later_stand-requires c = search stand

pub returns : goal.returns
returns c = search stand
