use Rattle.base.proofs.Laws.{tests}
use Rattle.probe.proofs.flat_detail.Goals as goal

pub enum_told-1 : goal.enum_told-1
enum_told-1 c = search tests

pub enum_known-d : goal.enum_known-d
enum_known-d c = search tests

pub enum_known-d-in-Timed-1 : goal.enum_known-d-in-Timed-1
enum_known-d-in-Timed-1 c = search tests

pub enum_told-in-NoDetail : goal.enum_told-in-NoDetail
enum_told-in-NoDetail c = search tests

pub returns-in-Plain : goal.returns-in-Plain
returns-in-Plain c = cc

pub returns-in-Nth : goal.returns-in-Nth
returns-in-Nth c = cc

pub returns-in-Timed : goal.returns-in-Timed
returns-in-Timed c = cc

pub returns-in-NoDetail : goal.returns-in-NoDetail
returns-in-NoDetail c = cc
