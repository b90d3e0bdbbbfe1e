use Rattle.base.proofs.Laws.{tests}
use Rattle.estelunya.proofs.estelunya_quick_interchange.Goals as goal

pub quick_interchange-requires : goal.quick_interchange-requires
quick_interchange-requires c = search tests

pub interchange_result-requires : goal.interchange_result-requires
interchange_result-requires c = search tests

pub returns : goal.returns
returns c = cc
