use Rattle.base.proofs.Laws.{tests}
use Rattle.estelunya.proofs.estelunya_days_union.Goals as goal

pub combine-requires : goal.combine-requires
combine-requires c = search tests

pub day_set_result-requires : goal.day_set_result-requires
day_set_result-requires c = search tests

pub shape_of-res : goal.shape_of-res
shape_of-res c = search tests
