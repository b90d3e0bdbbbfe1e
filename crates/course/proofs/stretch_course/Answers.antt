use Rattle.std.proofs.lemmas.Result.{err_from_is_err_and}
use Rattle.course.proofs.Laws.{course}
use Rattle.course.proofs.stretch_course.Goals as goal

pub calls_refusal-requires : goal.calls_refusal-requires
calls_refusal-requires c = search course

pub returns-in_err-calls_refusal : goal.returns-in_err-calls_refusal
returns-in_err-calls_refusal c =
    let p = err_from_is_err_and c.from_residual.result c.from_residual.ensures.1 in
    rw (p.1, p.2) (search (course, c.in_err-calls_refusal.was))

pub returns : goal.returns
returns c = search (course, c.in_ok-calls_refusal.was)
