use Rattle.draft.proofs.Writing.{codes}
use Rattle.draft.proofs.detail_code.Goals as goal

pub enum_told-1 : goal.enum_told-1
enum_told-1 c = search codes

pub enum_known-detail : goal.enum_known-detail
enum_known-detail c = search codes

pub enum_known-detail-in-Timed-1 : goal.enum_known-detail-in-Timed-1
enum_known-detail-in-Timed-1 c = search codes

pub enum_told-in-NoDetail : goal.enum_told-in-NoDetail
enum_told-in-NoDetail c = search codes

pub returns-in-Plain : goal.returns-in-Plain
returns-in-Plain c = search codes

pub returns-in-Nth : goal.returns-in-Nth
returns-in-Nth c = search codes

pub returns-in-Timed : goal.returns-in-Timed
returns-in-Timed c = search codes

pub returns-in-NoDetail : goal.returns-in-NoDetail
returns-in-NoDetail c = search codes
