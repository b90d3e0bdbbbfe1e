use Rattle.sections.proofs.Lookups.{numbering}
use Rattle.sections.proofs.number_on.Goals as goal

pub returns-then-skips : goal.returns-then-skips
returns-then-skips c = search numbering

pub returns : goal.returns
returns c = search numbering
