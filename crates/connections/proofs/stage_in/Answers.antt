use Rattle.std.proofs.lemmas.Result.{err_from_is_err_and}
use mathlib.Core.Path.{◌≡◌, ap, ◌∙◌}
use Rattle.std.specs.Prelude.{Ok, Some}
use Rattle.timetable.specs.Table.{stops#}
use Rattle.index.specs.Index.{view_in}
use Rattle.connections.proofs.Along.{courses, course-calls, course-run}
use Rattle.connections.proofs.stage_in.Goals as goal

pub service_course-requires : goal.service_course-requires
service_course-requires c = search courses

pub returns-in_err-service_course : goal.returns-in_err-service_course
returns-in_err-service_course c =
    let p = err_from_is_err_and c.from_residual.result c.from_residual.ensures.1 in
    rw (p.1, p.2) (search (courses, c.in_err-service_course.was))

pub stage_along-requires-clause-legs_bound : goal.stage_along-requires-clause-legs_bound
stage_along-requires-clause-legs_bound c =
    let v = view_in c.args.w.now c.args.x.now in
    let g : c.service_course.result ≡ Ok (Some c.in-Some.along) = c.in_ok-service_course.was ∙ ap Ok c.in-Some.is in (
      course-calls v c.args.s.now c.args.part c.args.k c.service_course.result c.service_course.ensures c.in-Some.along.start c.in-Some.along.legs g (stops# c.args.w.now) c.requires.s_value,
      course-run v c.args.s.now c.args.part c.args.k c.service_course.result c.service_course.ensures c.in-Some.along.start c.in-Some.along.legs g,
    )

pub returns-in-None : goal.returns-in-None
returns-in-None c = search (courses, c.in_ok-service_course.was)

pub returns-in-Some : goal.returns-in-Some
returns-in-Some c = search (courses, c.in_ok-service_course.was)
