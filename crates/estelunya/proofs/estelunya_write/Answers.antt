use Rattle.base.proofs.Laws.{tests}
use Rattle.estelunya.proofs.estelunya_write.Goals as goal

pub write_plan-requires : goal.write_plan-requires
write_plan-requires c = search tests

pub write_result-requires : goal.write_result-requires
write_result-requires c = search tests

pub shape_of-text : goal.shape_of-text
shape_of-text c = search tests
