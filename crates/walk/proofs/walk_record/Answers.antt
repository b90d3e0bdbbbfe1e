use Rattle.std.proofs.lemmas.Result.{err_from_is_err_and}
use Rattle.walk.proofs.Laws.{records}
use Rattle.walk.proofs.walk_record.Goals as goal

pub returns-in_err-course-clause-answer : goal.returns-in_err-course-clause-answer
returns-in_err-course-clause-answer c =
    let p = err_from_is_err_and c.from_residual.result c.from_residual.ensures.1 in
    rw (p.1, p.2) (search (records, c.in_err-course.was))

pub returns-in_err-course-clause-listed : goal.returns-in_err-course-clause-listed
returns-in_err-course-clause-listed c = search (records, c.in_err-course.was)

pub service_course-requires : goal.service_course-requires
service_course-requires c = search records

pub list-requires : goal.list-requires
list-requires c = search (records, c.in_ok-course.was)

pub returns-in-None : goal.returns-in-None
returns-in-None c = search (records, c.in_ok-course.was)

pub returns-in-Some : goal.returns-in-Some
returns-in-Some c = search (records, c.in_ok-course.was)
