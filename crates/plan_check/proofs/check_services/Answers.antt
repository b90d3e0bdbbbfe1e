use Rattle.base.proofs.Laws.{tests}
use Rattle.plan_check.proofs.Checking.{checking}
use Rattle.plan_check.proofs.check_services.Goals as goal

pub loop-at-init : goal.loop-at-init
loop-at-init c = search checking

pub loop-at-preserved : goal.loop-at-preserved
loop-at-preserved c = (search checking, search checking, search checking, search checking, search checking, search checking, search checking, search checking, search tests)

pub returns-in-Err : goal.returns-in-Err
returns-in-Err c = search checking

pub overflow_add-total : goal.overflow_add-total
overflow_add-total c = search checking

pub returns : goal.returns
returns c = search checking
