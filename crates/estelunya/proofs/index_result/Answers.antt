use Rattle.base.proofs.Laws.{tests}
use Rattle.estelunya.proofs.index_result.Goals as goal

pub enum_known-a : goal.enum_known-a
enum_known-a c = search tests

pub enum_known-a-in-Refused-1 : goal.enum_known-a-in-Refused-1
enum_known-a-in-Refused-1 c = search tests

pub returns-in-Index : goal.returns-in-Index
returns-in-Index c = cc

pub returns-in-Refused : goal.returns-in-Refused
returns-in-Refused c = cc
