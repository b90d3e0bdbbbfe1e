use Rattle.base.proofs.Laws.{tests}
use Rattle.estelunya.proofs.estelunya_quick_stop_name.Goals as goal

pub quick_name-requires : goal.quick_name-requires
quick_name-requires c = search tests

pub name_result-requires : goal.name_result-requires
name_result-requires c = search tests

pub returns : goal.returns
returns c = cc
