use Rattle.base.proofs.Laws.{tests}
use Rattle.estelunya.proofs.estelunya_quick_connection.Goals as goal

pub quick_connection-requires : goal.quick_connection-requires
quick_connection-requires c = search tests

pub connection_result-requires : goal.connection_result-requires
connection_result-requires c = search tests

pub returns : goal.returns
returns c = cc
