use Rattle.base.proofs.Laws.{tests}
use Rattle.estelunya.proofs.estelunya_check_index.Goals as goal

pub check_index-requires : goal.check_index-requires
check_index-requires c = search tests

pub check_number-requires : goal.check_number-requires
check_number-requires c = search tests

pub returns : goal.returns
returns c = cc
