use Rattle.base.proofs.Laws.{tests}
use Rattle.estelunya.proofs.estelunya_quick_walk.Goals as goal

pub quick_walk-requires : goal.quick_walk-requires
quick_walk-requires c = search tests

pub walk_result-requires : goal.walk_result-requires
walk_result-requires c = search tests

pub shape_of-rows : goal.shape_of-rows
shape_of-rows c = search tests
