use Rattle.base.proofs.Laws.{tests}
use Rattle.estelunya.proofs.estelunya_day.Goals as goal

pub day-requires : goal.day-requires
day-requires c = search tests

pub day_result-requires : goal.day_result-requires
day_result-requires c = search tests

pub returns : goal.returns
returns c = cc
