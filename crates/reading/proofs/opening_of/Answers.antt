use Rattle.reading.proofs.Passing.{opening}
use Rattle.reading.proofs.opening_of.Goals as goal

pub enum_known-said : goal.enum_known-said
enum_known-said c = search opening

pub returns-in_default : goal.returns-in_default
returns-in_default c = search opening

pub returns : goal.returns
returns c = search opening
