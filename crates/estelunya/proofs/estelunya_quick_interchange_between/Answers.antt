use Rattle.base.proofs.Laws.{tests}
use Rattle.estelunya.proofs.estelunya_quick_interchange_between.Goals as goal

pub quick_between-requires : goal.quick_between-requires
quick_between-requires c = search tests

pub interchange_result-requires : goal.interchange_result-requires
interchange_result-requires c = search tests

pub returns : goal.returns
returns c = cc
