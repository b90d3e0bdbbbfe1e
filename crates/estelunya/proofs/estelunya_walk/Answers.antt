use Rattle.base.proofs.Laws.{tests}
use Rattle.estelunya.proofs.estelunya_walk.Goals as goal

pub walk-requires : goal.walk-requires
walk-requires c = search tests

pub walk_result-requires : goal.walk_result-requires
walk_result-requires c = search tests

pub shape_of-rows : goal.shape_of-rows
shape_of-rows c = search tests
