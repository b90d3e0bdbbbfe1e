use Rattle.base.proofs.Laws.{tests}
use Rattle.probe.proofs.flat_number.Goals as goal

pub enum_known-d : goal.enum_known-d
enum_known-d c = search tests

pub enum_told-1 : goal.enum_told-1
enum_told-1 c = search tests

pub returns-in-Some : goal.returns-in-Some
returns-in-Some c = cc

pub returns-in-None : goal.returns-in-None
returns-in-None c = cc
