use Rattle.reading.proofs.Again.{firstly}
use Rattle.reading.proofs.first_offence.Goals as goal

pub enum_known-said : goal.enum_known-said
enum_known-said c = search firstly

pub returns-in_default : goal.returns-in_default
returns-in_default c = search firstly

pub returns : goal.returns
returns c = search firstly
