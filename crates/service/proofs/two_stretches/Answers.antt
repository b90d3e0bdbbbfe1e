use Rattle.service.proofs.Stretches.{sweeps}
use Rattle.service.proofs.two_stretches.Goals as goal

pub torn_days-requires : goal.torn_days-requires
torn_days-requires c = search sweeps

pub some_day-requires : goal.some_day-requires
some_day-requires c = search sweeps

pub returns : goal.returns
returns c = search sweeps
