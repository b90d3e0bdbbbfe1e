use Rattle.std.proofs.lemmas.Result.{err_from_is_err_and}
use Rattle.course.proofs.legs.Legs.{legs}
use Rattle.course.proofs.legs.legs_refusal.Goals as goal

pub loop-leg-init : goal.loop-leg-init
loop-leg-init c = search legs

pub leg_refusal-requires : goal.leg_refusal-requires
leg_refusal-requires c = search legs

pub returns-in_err-leg_refusal : goal.returns-in_err-leg_refusal
returns-in_err-leg_refusal c =
    let p = err_from_is_err_and c.from_residual.result c.from_residual.ensures.1 in
    rw (p.1, p.2) (search (legs, c.in_err-leg_refusal.was))

pub loop-leg-preserved : goal.loop-leg-preserved
loop-leg-preserved c = search legs

pub returns : goal.returns
returns c = search legs
