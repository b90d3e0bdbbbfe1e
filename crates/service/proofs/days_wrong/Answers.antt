use Rattle.service.proofs.Legs.{tearing}
use Rattle.service.proofs.days_wrong.Goals as goal

pub each_once-requires : goal.each_once-requires
each_once-requires c = search tearing

pub two_stretches-requires : goal.two_stretches-requires
two_stretches-requires c = search tearing

pub offends-requires : goal.offends-requires
offends-requires c = search tearing

pub returns-then-two_stretches : goal.returns-then-two_stretches
returns-then-two_stretches c = search tearing

pub returns-then-each_once : goal.returns-then-each_once
returns-then-each_once c = search tearing

pub offends-requires-2 : goal.offends-requires-2
offends-requires-2 c = search tearing

pub returns : goal.returns
returns c = search tearing
