use Rattle.base.proofs.Laws.{tests}
use Rattle.estelunya.proofs.estelunya_index.Goals as goal

pub make_index-requires : goal.make_index-requires
make_index-requires c = search tests

pub index_result-requires : goal.index_result-requires
index_result-requires c = search tests

pub shape_of-index : goal.shape_of-index
shape_of-index c = search tests
