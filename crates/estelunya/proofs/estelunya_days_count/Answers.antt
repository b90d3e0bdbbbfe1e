use Rattle.base.proofs.Laws.{tests}
use Rattle.estelunya.proofs.estelunya_days_count.Goals as goal

pub count-requires : goal.count-requires
count-requires c = search tests

pub day_count_result-requires : goal.day_count_result-requires
day_count_result-requires c = search tests

pub returns : goal.returns
returns c = cc
