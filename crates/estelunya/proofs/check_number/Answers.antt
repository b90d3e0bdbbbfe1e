use Rattle.base.proofs.Laws.{tests}
use Rattle.estelunya.proofs.check_number.Goals as goal

pub enum_told-1 : goal.enum_told-1
enum_told-1 c = search tests

pub enum_known-a : goal.enum_known-a
enum_known-a c = search tests

pub returns-in-Right : goal.returns-in-Right
returns-in-Right c = cc

pub returns-in-Refused : goal.returns-in-Refused
returns-in-Refused c = cc
