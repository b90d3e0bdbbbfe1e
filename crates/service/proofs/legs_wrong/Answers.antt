use Rattle.service.proofs.Legs.{naming}
use Rattle.service.proofs.legs_wrong.Goals as goal

pub overflow_sub-legs : goal.overflow_sub-legs
overflow_sub-legs c = search naming

pub each_once-requires : goal.each_once-requires
each_once-requires c = search naming

pub days_wrong-requires : goal.days_wrong-requires
days_wrong-requires c = search naming

pub returns-then-each_once : goal.returns-then-each_once
returns-then-each_once c = search naming

pub offends-requires : goal.offends-requires
offends-requires c = search naming

pub returns : goal.returns
returns c = search naming
