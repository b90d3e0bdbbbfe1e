use Rattle.base.proofs.Laws.{tests}
use Rattle.estelunya.proofs.estelunya_connection.Goals as goal

pub connection-requires : goal.connection-requires
connection-requires c = search tests

pub connection_result-requires : goal.connection_result-requires
connection_result-requires c = search tests

pub returns : goal.returns
returns c = cc
