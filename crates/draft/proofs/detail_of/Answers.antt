use Rattle.draft.proofs.Reading.{readers}
use Rattle.draft.proofs.detail_of.Goals as goal

pub returns-in-0 : goal.returns-in-0
returns-in-0 c = search readers

pub returns-in-1 : goal.returns-in-1
returns-in-1 c = search readers

pub returns-in-2 : goal.returns-in-2
returns-in-2 c = search readers

pub returns-in_default : goal.returns-in_default
returns-in_default c = search readers
