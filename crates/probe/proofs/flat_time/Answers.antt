use Rattle.base.proofs.Laws.{tests}
use Rattle.probe.proofs.flat_time.Goals as goal

pub enum_told-1 : goal.enum_told-1
enum_told-1 c = search tests

pub enum_known-t : goal.enum_known-t
enum_known-t c = search tests

pub stated_kind-requires : goal.stated_kind-requires
stated_kind-requires c = search tests

pub enum_told-in-NoTime : goal.enum_told-in-NoTime
enum_told-in-NoTime c = search tests

pub returns-in-Absent : goal.returns-in-Absent
returns-in-Absent c = cc

pub returns-in-Stated : goal.returns-in-Stated
returns-in-Stated c = cc

pub returns-in-NoTime : goal.returns-in-NoTime
returns-in-NoTime c = cc
