use Rattle.base.proofs.Laws.{tests}
use Rattle.probe.proofs.flat_end.Goals as goal

pub enum_told-1 : goal.enum_told-1
enum_told-1 c = search tests

pub enum_known-e : goal.enum_known-e
enum_known-e c = search tests

pub enum_known-e-in-Stop-1 : goal.enum_known-e-in-Stop-1
enum_known-e-in-Stop-1 c = search tests

pub enum_told-in-NoEnd : goal.enum_told-in-NoEnd
enum_told-in-NoEnd c = search tests

pub returns-in-Outer : goal.returns-in-Outer
returns-in-Outer c = cc

pub returns-in-Index : goal.returns-in-Index
returns-in-Index c = cc

pub returns-in-Stop : goal.returns-in-Stop
returns-in-Stop c = cc

pub returns-in-NoEnd : goal.returns-in-NoEnd
returns-in-NoEnd c = cc
