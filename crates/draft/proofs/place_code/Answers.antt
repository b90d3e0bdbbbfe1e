use Rattle.draft.proofs.Writing.{codes}
use Rattle.draft.proofs.place_code.Goals as goal

pub enum_told-1 : goal.enum_told-1
enum_told-1 c = search codes

pub enum_known-place : goal.enum_known-place
enum_known-place c = search codes

pub enum_known-place-in-Stop-1 : goal.enum_known-place-in-Stop-1
enum_known-place-in-Stop-1 c = search codes

pub enum_told-in-NoEnd : goal.enum_told-in-NoEnd
enum_told-in-NoEnd c = search codes

pub returns-in-Outer : goal.returns-in-Outer
returns-in-Outer c = search codes

pub returns-in-Index : goal.returns-in-Index
returns-in-Index c = search codes

pub returns-in-Stop : goal.returns-in-Stop
returns-in-Stop c = search codes

pub returns-in-NoEnd : goal.returns-in-NoEnd
returns-in-NoEnd c = search codes
