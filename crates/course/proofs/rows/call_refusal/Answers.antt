use Rattle.course.proofs.rows.Calls.{call}
use Rattle.course.proofs.rows.call_refusal.Goals as goal

pub returns-then-not-times_needed : goal.returns-then-not-times_needed
returns-then-not-times_needed c = search call

pub times_needed-requires : goal.times_needed-requires
times_needed-requires c = search call

pub returns-then-legs-i : goal.returns-then-legs-i
returns-then-legs-i c = search call

pub returns-then-not-category_once : goal.returns-then-not-category_once
returns-then-not-category_once c = search call

pub overflow_add-start : goal.overflow_add-start
overflow_add-start c = search call

pub category_once-requires : goal.category_once-requires
category_once-requires c = search call

pub returns : goal.returns
returns c = search call
