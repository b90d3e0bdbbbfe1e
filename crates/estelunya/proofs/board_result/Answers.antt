use Rattle.base.proofs.Laws.{tests}
use Rattle.estelunya.proofs.board_result.Goals as goal

pub enum_known-a : goal.enum_known-a
enum_known-a c = search tests

pub enum_known-a-in-Refused-1 : goal.enum_known-a-in-Refused-1
enum_known-a-in-Refused-1 c = search tests

pub returns-in-Listed : goal.returns-in-Listed
returns-in-Listed c = cc

pub returns-in-Refused : goal.returns-in-Refused
returns-in-Refused c = cc
