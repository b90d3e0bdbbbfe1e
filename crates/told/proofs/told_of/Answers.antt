use Rattle.told.proofs.Laws.{telling}
use Rattle.told.proofs.told_of.Goals as goal

pub enum_told-1 : goal.enum_told-1
enum_told-1 c = search telling

pub told_by-requires : goal.told_by-requires
told_by-requires c = search telling

pub returns-in_default : goal.returns-in_default
returns-in_default c = search telling

pub skips-requires : goal.skips-requires
skips-requires c = search telling

pub returns-then-skips : goal.returns-then-skips
returns-then-skips c = search telling

pub returns : goal.returns
returns c = search telling
