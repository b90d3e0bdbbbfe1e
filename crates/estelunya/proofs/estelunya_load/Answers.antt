use Rattle.base.proofs.Laws.{tests}
use Rattle.estelunya.proofs.estelunya_load.Goals as goal

pub load-requires : goal.load-requires
load-requires c = search tests

pub load_result-requires : goal.load_result-requires
load_result-requires c = search tests

pub shape_of-table : goal.shape_of-table
shape_of-table c = search tests

pub shape_of-helper : goal.shape_of-helper
shape_of-helper c = search tests
