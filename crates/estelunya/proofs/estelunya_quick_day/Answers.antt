use Rattle.base.proofs.Laws.{tests}
use Rattle.estelunya.proofs.estelunya_quick_day.Goals as goal

pub quick_day-requires : goal.quick_day-requires
quick_day-requires c = search tests

pub day_result-requires : goal.day_result-requires
day_result-requires c = search tests

pub returns : goal.returns
returns c = cc
